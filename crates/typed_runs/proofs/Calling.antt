-- Calls of typed programs: of the library, of built-in methods and of the program's own.
pub mod Returning
pub mod BuiltIn
pub mod Called
pub mod Calls
pub mod CallsOperate
pub mod GivenCalls
pub mod Passed
pub mod Receiver
