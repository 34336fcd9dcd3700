pub mod OrderLaws
pub mod LawfulLaws
pub mod OneListLaws
pub mod ReplayLaws
mod OrderLemmas
mod FrontLemmas
