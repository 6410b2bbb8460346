pub mod Reading
pub mod ReadingLaws
pub mod DigitLaws
pub mod WeightLaws
pub mod SignedLaws
