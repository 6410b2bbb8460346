pub mod Plates
pub mod ReplayExample
