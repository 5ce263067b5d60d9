pub mod Describing
pub mod Choices
pub mod Counting
pub mod Moving
pub mod Descriptors
