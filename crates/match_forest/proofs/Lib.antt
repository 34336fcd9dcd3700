pub mod FrontLemmas
pub mod ForestLemmas
pub mod InsertLemmas
pub mod CutLemmas
