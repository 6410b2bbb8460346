pub mod FillingLaws
pub mod ToldLaws
