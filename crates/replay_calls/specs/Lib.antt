pub mod Front
pub mod Lent
pub mod Texts
pub mod Ready
pub mod Running
