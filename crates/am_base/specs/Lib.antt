pub mod Counts
pub mod Shelves
pub mod Sinks
pub mod Files
pub mod Numbers
pub mod Failing
pub mod InMemory
pub mod MemSink
