pub mod Gate
pub mod Opening
pub mod Loading
pub mod Journals
pub mod Faults
