pub mod Renaming
pub mod Telling
pub mod Following
pub mod Pushed
pub mod Framing
pub mod WovenTyping
