pub mod Beside
pub mod TreeFiles
pub mod Sinks
