pub mod TestLemmas
pub mod EachLemmas
