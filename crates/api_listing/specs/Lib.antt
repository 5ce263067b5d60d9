pub mod BuiltIn
pub mod Descriptor
pub mod Fault
pub mod Lines
pub mod Listing
pub mod Nearest
pub mod Seen
pub mod Words
