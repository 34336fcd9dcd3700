pub mod Steps
pub mod Given
pub mod Right
pub mod Levels
pub mod Told
pub mod Grown
pub mod Struck
