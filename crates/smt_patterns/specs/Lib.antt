pub mod Patterns
pub mod Places
pub mod Roots
pub mod Triggers
