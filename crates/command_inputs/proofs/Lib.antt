mod Counts
pub mod NamedOnce
pub mod ReadFiles
pub mod ClassFiles
pub mod Reading
pub mod Contents
mod ToldTexts
