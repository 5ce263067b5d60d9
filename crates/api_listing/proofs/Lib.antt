pub mod ClassBytes
mod Climbing
pub mod DescriptorLaws
pub mod Descriptors
pub mod Names
pub mod Pieces
mod Resolving
pub mod Tables
