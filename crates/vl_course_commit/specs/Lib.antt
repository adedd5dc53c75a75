pub mod Committing
pub mod Dealing
