pub mod Sorted
pub mod Sound
pub mod Triggers
pub mod Laws
