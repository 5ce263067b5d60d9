pub mod ByName
pub mod Climbing
pub mod Codes
pub mod CopiedItems
pub mod Ending
pub mod ListedMethods
pub mod Lists
pub mod Names
pub mod Passing
pub mod Picking
pub mod Placing
pub mod Staying
mod Texts
pub mod Upwards
mod ShapedUses
