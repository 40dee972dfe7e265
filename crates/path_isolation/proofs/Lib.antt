pub mod Marks
pub mod Copied
pub mod ChainLemmas
pub mod Around
pub mod Walks
pub mod Lengths
pub mod Elsewhere
pub mod Before
