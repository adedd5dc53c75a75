pub mod Gates
pub mod Appended
pub mod Made
pub mod Loaded
