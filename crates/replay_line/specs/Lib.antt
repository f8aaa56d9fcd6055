pub mod Line
pub mod Text
pub mod Types
pub mod Value
