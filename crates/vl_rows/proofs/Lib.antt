pub mod Finding
pub mod Versioning
