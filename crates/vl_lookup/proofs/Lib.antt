pub mod Answered
pub mod Asides
pub mod Made
pub mod Matching
pub mod Rows
pub mod Stepped
