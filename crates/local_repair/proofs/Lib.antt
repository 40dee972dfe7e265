pub mod Settlings
pub mod Reuses
