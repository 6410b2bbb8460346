pub mod Rest
pub mod Wrote
