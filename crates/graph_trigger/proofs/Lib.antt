pub mod SizeLemmas
pub mod ValidLemmas
