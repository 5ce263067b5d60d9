mod Told
pub mod Operates
