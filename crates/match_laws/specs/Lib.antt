pub mod StepLaw
pub mod Given
pub mod Due
pub mod OwedLaw
pub mod History
