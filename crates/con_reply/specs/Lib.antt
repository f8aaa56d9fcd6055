pub mod AsksGive
pub mod Consistent
pub mod Delivery
pub mod Jobs
pub mod Reply
pub mod Sent
pub mod Uploaded
