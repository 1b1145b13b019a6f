pub mod HeldSink
pub mod MemorySink
pub mod MemorySource
pub mod Sink
pub mod Source
