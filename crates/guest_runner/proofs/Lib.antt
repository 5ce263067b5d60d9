mod Asked
mod Devices
mod Keeping
mod Lines
pub mod Traces
mod Turning
