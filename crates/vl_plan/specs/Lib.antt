pub mod Conditions
pub mod Fits
pub mod Kinds
pub mod Planned
pub mod Sets
pub mod Targets
