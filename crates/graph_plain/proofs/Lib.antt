pub mod SameLemmas
pub mod StandingLemmas
pub mod GraphLemmas
pub mod ApplyLemmas
pub mod MatchLemmas
pub mod TupleLemmas
