pub mod Answers
pub mod Causes
pub mod Command
pub mod Dcf
pub mod Names
pub mod Request
pub mod Sequence
