pub mod FileLaws
pub mod Loops
pub mod NoteLaws
pub mod Order
pub mod Places
pub mod Readers
pub mod TypeLaws
