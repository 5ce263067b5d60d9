pub mod FirstFault
pub mod Growing
pub mod Reading
pub mod Saying
