pub mod Holds
pub mod Value
pub mod ByParts
pub mod Laws
