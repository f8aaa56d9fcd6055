pub mod Commands
pub mod Deadline
pub mod Parts
pub mod PartsOf
pub mod Payload
pub mod Record
pub mod Types
