pub mod Decoding
pub mod Fields
pub mod GivesInPackets
pub mod Limits
pub mod Reading
pub mod Reply
pub mod ResultSet
pub mod ResultSetReading
