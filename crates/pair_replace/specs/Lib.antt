pub mod Near
pub mod Chains
pub mod NewRules
pub mod Turns
pub mod Disjoint
