pub mod Hash
pub mod Chains
pub mod Differing
