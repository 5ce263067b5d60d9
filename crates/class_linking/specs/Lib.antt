pub mod Fault
pub mod Heights
pub mod ClassConditions
pub mod Operands
pub mod Known
pub mod Handlers
pub mod Linking
pub mod Laws
