-- Typed clients: what their runs keep, and that their steps are as lifting asks.
pub mod Values
pub mod Named
pub mod Made
pub mod Passing
pub mod Answering
pub mod Keeping
pub mod Linked
pub mod Roomy
pub mod Machines
pub mod Starting
pub mod Unasked
pub mod Listed
pub mod OfKinds
pub mod StepsFit
pub mod Apart
pub mod OneThread
