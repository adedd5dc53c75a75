pub mod SeenLemmas
pub mod PartRules
pub mod StatementRules
pub mod Whole
pub mod PrintedAgain
