pub mod Layout
pub mod Methods
pub mod Arities
pub mod Library
pub mod Searched
pub mod Tables
