pub mod Wanted
pub mod Lists
pub mod MovedLemmas
pub mod Heads
pub mod Examples
