pub mod Advancing
pub mod Beginning
pub mod Laid
pub mod Nearer
pub mod Steps
pub mod Telling
