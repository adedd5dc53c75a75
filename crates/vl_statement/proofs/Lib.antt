pub mod Counting
pub mod Leaving
pub mod Reached
pub mod Waited
