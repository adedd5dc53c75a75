pub mod Answering
pub mod Begun
pub mod Changes
pub mod Effects
pub mod Making
pub mod Progress
pub mod Stepping
