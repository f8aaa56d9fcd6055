pub mod Bytes
pub mod Causes
pub mod Command
pub mod Dcf
pub mod Refusals
pub mod Request
pub mod Sequence
pub mod Writing
