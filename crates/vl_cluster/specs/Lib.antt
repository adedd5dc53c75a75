pub mod Kept
pub mod Lists
pub mod Numbers
pub mod View
