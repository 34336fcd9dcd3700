pub mod Labels
pub mod Operations
pub mod Picks
pub mod PlainInside
pub mod Tuples
pub mod Values
