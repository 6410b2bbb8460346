pub mod Counts
pub mod Rows
pub mod Listings
pub mod Filling
pub mod Told
