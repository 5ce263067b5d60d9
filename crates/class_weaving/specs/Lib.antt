pub mod State
pub mod Woven
pub mod Known
pub mod Sizes
pub mod Outcome
pub mod Covering
pub mod LinesStay
