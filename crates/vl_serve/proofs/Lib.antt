pub mod Runs
pub mod Others
pub mod Steps
pub mod Turns
pub mod Short
