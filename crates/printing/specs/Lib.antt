pub mod Printable
pub mod Wrote
pub mod Columns
pub mod Room
