pub mod Inverted
pub mod Paths
pub mod Marks
pub mod PathsInside
pub mod Occurrences
pub mod Claims
pub mod Climbing
pub mod Wants
