pub mod Places
pub mod Tables
pub mod Climbing
pub mod Judging
pub mod Lifts
