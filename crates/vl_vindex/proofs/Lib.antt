pub mod ByteOrder
pub mod Chain
pub mod Covering
pub mod Digits
pub mod Outside
pub mod Spelled
