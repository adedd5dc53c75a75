pub mod Answers
pub mod Calls
pub mod Ending
pub mod Lanes
pub mod Marks
pub mod Showing
