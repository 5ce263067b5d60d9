mod Joining
pub mod Mapping
mod Growing
