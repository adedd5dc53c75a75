pub mod Grammar
pub mod Reading
pub mod Seen
pub mod Separator
pub mod Fault
