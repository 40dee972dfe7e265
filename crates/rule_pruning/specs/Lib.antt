pub mod Saving
pub mod Calls
