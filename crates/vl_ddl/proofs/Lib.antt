pub mod SeenLemmas
pub mod ReadingSteps
pub mod PartRules
pub mod TableRules
pub mod TrailerRule
pub mod Whole
