pub mod Weighing
pub mod Deals
pub mod Finding
pub mod Linking
