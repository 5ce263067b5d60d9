mod Blocks
mod Classes
mod Rows
mod Starter
mod Threads
mod Walking
