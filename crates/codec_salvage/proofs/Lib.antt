pub mod Answered
pub mod ReadBack
pub mod Refuses
pub mod Repaired
pub mod Stop
pub mod Stored
pub mod Told
