pub mod Causes
pub mod Repair
pub mod Salvage
