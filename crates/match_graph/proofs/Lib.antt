pub mod GatherLemmas
pub mod StepLemmas
pub mod RootLemmas
pub mod EntryLemmas
pub mod WholeLemmas
