pub mod Once
pub mod Weights
pub mod Dealing
pub mod Found
pub mod Stealing
pub mod Ring
