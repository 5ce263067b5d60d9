pub mod Values
pub mod Stepping
pub mod Became
pub mod Room
pub mod Making
