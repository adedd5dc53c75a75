pub mod Acting
pub mod Cases
pub mod Lanes
pub mod Told
pub mod Turned
