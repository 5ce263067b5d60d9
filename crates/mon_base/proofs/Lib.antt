mod Numbers
pub mod Reading
pub mod Readers
pub mod Loop
pub mod Lists
pub mod Answering
pub mod Putting
