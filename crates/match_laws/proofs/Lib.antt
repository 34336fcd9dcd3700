pub mod DecideLaws
pub mod FollowLaws
pub mod WalkLaws
pub mod StepLaws
pub mod GrowLaws
pub mod GivenLaws
pub mod OwedLaws
pub mod HistoryLaws
