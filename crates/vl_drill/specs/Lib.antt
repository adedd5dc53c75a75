pub mod Drilling
pub mod Generator
pub mod Statements
pub mod Turns
