pub mod Acts
pub mod Answering
pub mod Entry
pub mod Making
pub mod Progress
pub mod Stepping
