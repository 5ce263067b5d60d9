pub mod SkipPointers
pub mod Hierarchy
pub mod Merging
pub mod Laws
pub mod Components
