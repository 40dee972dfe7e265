pub mod Stops
pub mod Tokens
pub mod Kept
pub mod Cursors
pub mod Finders
pub mod Work
pub mod Laws
pub mod Rises
