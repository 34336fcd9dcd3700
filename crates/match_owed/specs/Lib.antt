pub mod OwedLog
pub mod Giving
pub mod Items
pub mod Starts
pub mod Due
pub mod LogInside
pub mod OwedInside
pub mod Asked
