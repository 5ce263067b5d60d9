mod Options
mod Differing
mod Noted
mod Accepting
pub mod Telling
mod Security
mod Denied
pub mod Covering
mod Unbroken
mod Judged
