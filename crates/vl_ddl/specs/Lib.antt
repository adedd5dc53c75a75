pub mod Words
pub mod Told
pub mod Grammar
pub mod Meaning
pub mod Reading
pub mod Seen
pub mod Step
pub mod Fault
