pub mod Cases
pub mod Digits
pub mod Grammar
pub mod InGrammar
