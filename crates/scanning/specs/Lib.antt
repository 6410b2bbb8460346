pub mod Until
pub mod UntilLaws
