pub mod Built
pub mod Look
pub mod Rows
pub mod Turns
pub mod Walks
pub mod Numerals
pub mod Bounds
