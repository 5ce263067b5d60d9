pub mod Advancing
pub mod Asking
pub mod Book
pub mod PlainAnswers
pub mod Running
pub mod Runs
