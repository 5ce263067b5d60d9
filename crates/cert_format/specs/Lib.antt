pub mod Names
pub mod Encoding
pub mod Fits
pub mod Index
pub mod Writing
pub mod Reading
