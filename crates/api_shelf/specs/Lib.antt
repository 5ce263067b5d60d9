pub mod Asking
pub mod Console
pub mod Fused
pub mod Plain
pub mod Scripted
pub mod Shelf
pub mod Telling
