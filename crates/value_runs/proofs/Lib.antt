pub mod Unmarking
pub mod Distinct
pub mod StatesWithin
pub mod StateLists
pub mod FewReads
pub mod Reading
