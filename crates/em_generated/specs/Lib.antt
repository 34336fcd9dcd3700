pub mod GeneratedScript
pub mod Putting
