pub mod Bytes
pub mod Stream
pub mod Framing
pub mod Feeding
pub mod Holding
