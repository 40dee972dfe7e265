pub mod Settling
pub mod Reusing
