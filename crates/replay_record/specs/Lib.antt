pub mod Causes
pub mod Gather
pub mod Record
pub mod Request
pub mod Types
