pub mod ReadLemmas
pub mod ClosureLemmas
pub mod MeaningLemmas
pub mod StartLemmas
pub mod AddedLemmas
pub mod QuestionLemmas
pub mod LastLemmas
pub mod ClashLemmas
