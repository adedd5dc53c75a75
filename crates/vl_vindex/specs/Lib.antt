pub mod Checking
pub mod KeyRange
pub mod Reading
pub mod Ring
pub mod Vindex
