pub mod Resting
pub mod Sweep
pub mod Table
pub mod Types
pub mod Walk
