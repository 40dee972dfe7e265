pub mod ByteCounts
pub mod Calls
pub mod Files
pub mod Memory
pub mod MemoryFiles
pub mod Outside
pub mod Shelf
