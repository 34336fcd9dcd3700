pub mod Truths
pub mod Joins
