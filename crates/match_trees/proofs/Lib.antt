pub mod IndexLemmas
pub mod WayLemmas
pub mod NodeLemmas
pub mod FrontLemmas
pub mod EntryLemmas
pub mod LawLemmas
