pub mod Held
pub mod Places
pub mod Readable
pub mod SuccessiveCalls
