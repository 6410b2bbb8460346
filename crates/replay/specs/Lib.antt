pub mod LineLaws
pub mod Progress
pub mod Whole
