pub mod BuiltIn
pub mod Numbers
pub mod Walk
