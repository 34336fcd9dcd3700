pub mod Examples
pub mod Steps
pub mod Sorts
pub mod Bindings
pub mod Asserting
pub mod Sound
mod SessionLawLevels
mod SessionLawForms
pub mod SessionLaw
