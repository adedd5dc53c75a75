pub mod OneAgain
pub mod Packets
pub mod ReadBack
pub mod Repeated
pub mod SetAgain
