pub mod Terms
pub mod TermEntry
pub mod Entries
pub mod TableInside
