pub mod Operations
pub mod Clash
pub mod Last
pub mod GraphInside
