pub mod Commands
pub mod Answers
pub mod Parameters
pub mod SessionLaws
