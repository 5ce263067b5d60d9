pub mod Insns
pub mod Loop
pub mod Placing
