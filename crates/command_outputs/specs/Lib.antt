pub mod Fields
pub mod Lines
pub mod Example
pub mod Outputs
pub mod Generated
