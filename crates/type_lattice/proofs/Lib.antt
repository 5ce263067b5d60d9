pub mod Ascending
pub mod Filling
pub mod OnNames
pub mod Arrays
pub mod Within
pub mod Orders
mod Bounds
mod Least
mod Alone
