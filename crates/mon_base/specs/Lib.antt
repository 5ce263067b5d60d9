pub mod Reading
pub mod Room
pub mod Answer
pub mod Widths
pub mod Popping
pub mod Borrowing
pub mod Persistent
