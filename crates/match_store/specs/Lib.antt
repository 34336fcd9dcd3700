pub mod Candidates
pub mod DoneInstances
pub mod Instance
pub mod KeySet
pub mod New
