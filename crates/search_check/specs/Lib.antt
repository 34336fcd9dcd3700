pub mod Live
pub mod Round
pub mod Verdicts
pub mod UnderWay
