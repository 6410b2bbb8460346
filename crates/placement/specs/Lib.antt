pub mod Fitting
pub mod Least
