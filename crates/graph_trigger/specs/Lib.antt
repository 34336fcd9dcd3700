pub mod Trigger
pub mod Validity
