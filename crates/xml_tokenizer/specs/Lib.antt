pub mod LineEnds
pub mod Scanning
pub mod Ends
pub mod Runs
pub mod Taking
pub mod Standing
pub mod Laws
