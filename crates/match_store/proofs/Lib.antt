pub mod CandidateLemmas
pub mod KeySetLemmas
pub mod LeftLemmas
pub mod ListLemmas
pub mod NewLemmas
pub mod SameLemmas
