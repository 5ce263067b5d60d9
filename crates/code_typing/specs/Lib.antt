pub mod Wanted
pub mod Changing
pub mod Leaving
pub mod Catching
pub mod Steps
pub mod Closed
pub mod Order
pub mod First
