pub mod Beginning
pub mod Leaving
pub mod ClassLoop
pub mod Loop
pub mod Sound
pub mod Starting
pub mod Lengths
pub mod Whole
pub mod Constants
pub mod Parts
pub mod Nearest
mod NothingLeft
mod LinkedMembers
mod LinkedOperands
mod LinkedCalls
mod LinkedTexts
mod LeftMethods
mod LinkedBodies
mod LinkedPlaces
mod LinkedUses
mod LinkedMain
mod LinkedWhole
mod Listed
mod LinkedOrder
