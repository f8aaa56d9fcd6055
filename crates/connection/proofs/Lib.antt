pub mod DueView
pub mod StartView
pub mod TickLaws
pub mod TurnView
