pub mod Stack
pub mod Heap
pub mod Borrowing
