pub mod Saying
pub mod FieldLaws
pub mod CallLaws
