pub mod Bytes
pub mod Entries
pub mod Salts
pub mod Spelled
pub mod Texts
pub mod Tokens
