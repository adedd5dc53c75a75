pub mod Gathering
pub mod Homes
pub mod Visited
