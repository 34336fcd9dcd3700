pub mod HoldsLaws
pub mod ConnectiveLemmas
pub mod DifferLemmas
pub mod ValueLaws
pub mod ByPartsLemmas
