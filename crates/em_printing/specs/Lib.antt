pub mod Names
pub mod Printed
pub mod Writing
pub mod WritesTerm
