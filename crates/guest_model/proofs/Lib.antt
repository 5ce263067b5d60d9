pub mod Options
pub mod Effects
pub mod Arithmetic
pub mod Numbers
pub mod Insns
pub mod Catching
pub mod Always
pub mod Staying
mod Seeing
mod Counting
mod Going
mod Throwing
mod Calling
mod Stepping
pub mod ClosedPlaces
pub mod Words
pub mod HeapResults
mod KeptWords
mod Passing
mod Answers
mod Permitted
mod InRange
mod Linked
mod Listed
mod There
mod Enabled
mod HeapOperations
mod Leaving
mod Moving
mod Calls
mod Making
mod Rows
mod Described
mod Ends
pub mod Asks
mod Turning
