mod Switches
mod Putting
mod Locals
mod Frames
mod Forms
