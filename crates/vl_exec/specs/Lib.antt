pub mod Begun
pub mod Effects
pub mod Making
pub mod Progress
pub mod Staging
pub mod Stepping
