pub mod Value
pub mod Making
pub mod Makes
pub mod Names
pub mod Entries
pub mod DistinctNames
pub mod BoundInside
pub mod StateInside
