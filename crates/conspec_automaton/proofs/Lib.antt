pub mod Ranges
pub mod Built
pub mod Obeying
pub mod Turned
mod Seeing
mod Refusing
mod Verdicts
