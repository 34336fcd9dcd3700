pub mod ItemLaws
pub mod SameLaws
pub mod ReachLaws
pub mod DraftLaws
pub mod KeptLaws
