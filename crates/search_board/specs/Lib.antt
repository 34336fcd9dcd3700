pub mod Values
pub mod Places
pub mod Board
pub mod Sets
pub mod BoardInside
pub mod Undo
