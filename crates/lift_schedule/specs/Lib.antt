pub mod Standing
pub mod Running
pub mod Lifting
pub mod Laws
