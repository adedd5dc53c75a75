pub mod Cutting
pub mod Entries
pub mod KeyOrder
pub mod Keying
pub mod Fitting
pub mod Spelled
