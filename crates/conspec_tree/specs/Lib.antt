pub mod Clauses
pub mod Guards
pub mod Kinds
pub mod Telling
pub mod Tree
pub mod Updates
pub mod Variables
