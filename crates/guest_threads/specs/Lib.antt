pub mod Acts
pub mod Calls
pub mod Becomes
pub mod Monitors
pub mod KeyPlaces
pub mod OnTop
