pub mod ValueRoom
