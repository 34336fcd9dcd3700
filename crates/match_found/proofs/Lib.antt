mod ArrangingLemmas
mod ListLemmas
mod SameLemmas
mod StoredLemmas
