pub mod Audit
pub mod Finding
pub mod Gathering
pub mod Giving
pub mod Mapping
