pub mod Staged
pub mod Telling
