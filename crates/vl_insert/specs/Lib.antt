pub mod Answering
pub mod Begun
pub mod Laying
pub mod Making
pub mod Progress
pub mod Stepping
