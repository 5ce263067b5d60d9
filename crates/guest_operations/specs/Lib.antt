pub mod Led
pub mod Statics
pub mod Operates
