pub mod Asks
pub mod Closings
pub mod Endings
pub mod Leaving
pub mod Nothing
pub mod Places
pub mod Steps
pub mod Turns
