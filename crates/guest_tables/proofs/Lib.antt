pub mod Components
pub mod GivenClasses
pub mod Naming
pub mod Nearest
pub mod ObjectFields
pub mod Searching
mod Told
