pub mod Library
pub mod Lines
pub mod Shown
