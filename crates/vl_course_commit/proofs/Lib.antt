pub mod Kept
pub mod Leaving
pub mod Nothing
pub mod Standing
pub mod Turns
