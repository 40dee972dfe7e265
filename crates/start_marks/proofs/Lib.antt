pub mod Keeping
pub mod Weights
pub mod Moving
