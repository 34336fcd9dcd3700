pub mod CursorLemmas
pub mod CheckLemmas
pub mod Machines
pub mod Openings
pub mod Walks
pub mod ForallLemmas
pub mod TriggerLemmas
