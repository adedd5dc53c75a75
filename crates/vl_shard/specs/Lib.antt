pub mod Banks
pub mod Calls
pub mod Changing
pub mod Obtaining
pub mod Parts
pub mod Seats
