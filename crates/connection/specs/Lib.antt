pub mod Ask
pub mod Start
pub mod Tick
pub mod Types
