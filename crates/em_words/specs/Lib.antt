pub mod Number
pub mod Texts
pub mod Meaning
pub mod ClapCommand
pub mod Work
pub mod Asked
