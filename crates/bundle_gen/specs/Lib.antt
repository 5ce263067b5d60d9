pub mod Code
pub mod Draws
pub mod Generated
pub mod Linked
pub mod Sizes
