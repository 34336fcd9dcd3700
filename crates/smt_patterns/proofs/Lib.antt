pub mod PatternLemmas
pub mod SizeLemmas
pub mod PlaceLemmas
pub mod ReachLemmas
pub mod KeepLemmas
pub mod TriggerLemmas
