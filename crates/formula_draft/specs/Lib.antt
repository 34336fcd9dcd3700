pub mod Items
pub mod DraftRow
pub mod DraftNode
pub mod Reach
pub mod Draft
pub mod DraftInside
pub mod Sorted
