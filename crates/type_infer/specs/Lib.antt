pub mod Fits
pub mod Shape
pub mod Untyped
pub mod Laws
pub mod Solving
pub mod Sending
pub mod Grouping
pub mod Unmade
