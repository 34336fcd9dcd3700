pub mod PrintedLaws
pub mod TreeSizes
pub mod Texts
