pub mod Given
pub mod Needing
pub mod Adding
pub mod Sharing
pub mod Listing
