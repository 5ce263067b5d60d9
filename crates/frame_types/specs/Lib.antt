pub mod Moving
pub mod Agreeing
