pub mod Aside
pub mod Coming
pub mod Own
pub mod Places
pub mod Seats
pub mod Sitting
pub mod Unwarned
