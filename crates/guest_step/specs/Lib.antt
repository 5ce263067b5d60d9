pub mod Turns
pub mod Built
pub mod InFrame
pub mod Writing
pub mod Start
pub mod Fitting
pub mod Living
pub mod Rooms
