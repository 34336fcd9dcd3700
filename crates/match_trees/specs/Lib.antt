pub mod Index
pub mod Trees
pub mod Growth
pub mod NodesInside
pub mod EntryList
pub mod TreeLaws
