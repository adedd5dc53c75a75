pub mod History
pub mod Command
pub mod Connection
pub mod Serving
pub mod Playing
