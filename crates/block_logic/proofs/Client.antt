-- Steps of a thread that does not hold the lock.
pub mod Answers
pub mod Begins
pub mod Calls
pub mod Changes
pub mod Classes
pub mod Frames
pub mod Insns
pub mod Monitors
pub mod Passing
pub mod Steps
pub mod Throws
pub mod Values
pub mod Operates
