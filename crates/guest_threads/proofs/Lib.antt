pub mod Held
mod Unwinding
mod Passed
mod GivenUp
mod Numbered
mod Keys
mod Methods
