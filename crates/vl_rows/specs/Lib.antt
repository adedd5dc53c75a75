pub mod Matching
pub mod Slots
pub mod Versions
