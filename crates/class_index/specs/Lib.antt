pub mod Library
pub mod Nearest
pub mod InterfaceFields
pub mod Asking
pub mod Index
