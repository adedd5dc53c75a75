pub mod Locks
pub mod Take
pub mod Taking
