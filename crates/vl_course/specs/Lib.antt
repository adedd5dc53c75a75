pub mod Answered
pub mod Changing
pub mod Course
pub mod Selecting
pub mod Turning
