pub mod Due
pub mod Happening
pub mod Ran
