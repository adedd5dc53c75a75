pub mod Found
pub mod Laying
pub mod Moments
pub mod Replayed
pub mod Restored
pub mod Used
pub mod Writes
pub mod Written
