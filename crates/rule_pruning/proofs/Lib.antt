pub mod FoundCalls
pub mod Inlined
pub mod InlineCalls
pub mod SavingLemmas
pub mod Taken
pub mod Turns
pub mod Dissolved
