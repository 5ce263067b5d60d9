pub mod Names
pub mod Lists
pub mod Heads
pub mod Sizes
mod Conditions
mod Upwards
pub mod LookUps
pub mod Operands
pub mod Codes
pub mod Methods
pub mod Classes
pub mod Whole
