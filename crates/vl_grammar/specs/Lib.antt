pub mod Terminal
pub mod Item
pub mod Reading
pub mod Layout
pub mod Lists
