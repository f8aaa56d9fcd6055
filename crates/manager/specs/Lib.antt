pub mod Calls
pub mod Change
pub mod Plan
pub mod Types
pub mod Value
