pub mod Nodes
pub mod Moved
pub mod Applied
