pub mod NumbersName
pub mod NumbersRefuse
mod Flags
mod Headers
