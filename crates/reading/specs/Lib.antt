pub mod Readable
pub mod Answering
pub mod Lent
