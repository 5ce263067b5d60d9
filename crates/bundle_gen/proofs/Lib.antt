pub mod Counting
mod Growing
pub mod ShortCodes
mod Files
mod Sizes
