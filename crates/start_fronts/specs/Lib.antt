pub mod Before
pub mod Alike
pub mod Moved
pub mod Isolating
pub mod Edits
pub mod Laws
