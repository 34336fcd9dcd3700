pub mod Asked
pub mod Shared
