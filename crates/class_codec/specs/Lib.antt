pub mod Pool
pub mod Encoding
pub mod Fits
pub mod Reading
