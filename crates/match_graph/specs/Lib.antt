pub mod AllMatches
pub mod Asking
pub mod FirstEntries
pub mod Gathering
pub mod GraphInside
pub mod GraphTerms
pub mod GraphTermsLaws
pub mod WholeBatch
