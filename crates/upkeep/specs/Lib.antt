pub mod StepLaws
pub mod LiveFrom
pub mod Flushing
pub mod Dropping
pub mod Works
