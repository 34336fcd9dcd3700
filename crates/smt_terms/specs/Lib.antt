pub mod Reading
pub mod Terms
pub mod Cursor
pub mod Machine
pub mod Checks
pub mod Bodies
pub mod Triggers
pub mod Scopes
