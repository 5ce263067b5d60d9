pub mod MemSink
pub mod MemStore
pub mod Outputs
pub mod Read
pub mod Sink
pub mod Store
