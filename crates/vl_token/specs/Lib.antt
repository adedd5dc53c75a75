pub mod Tok
pub mod Lexical
pub mod View
pub mod Steps
