pub mod LogLemmas
pub mod KeptLemmas
pub mod GiveLemmas
pub mod DueLemmas
pub mod StartLemmas
pub mod BatchLemmas
pub mod OrderLemmas
pub mod DischargeLemmas
