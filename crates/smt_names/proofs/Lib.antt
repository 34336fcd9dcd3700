pub mod EntryLemmas
pub mod StateLemmas
pub mod CheckLemmas
pub mod BoundLemmas
pub mod Examples
