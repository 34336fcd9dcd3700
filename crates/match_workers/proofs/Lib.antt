mod CountingLemmas
mod TellingLemmas
mod PuttingLemmas
mod ArrangingLemmas
mod GatheringLemmas
