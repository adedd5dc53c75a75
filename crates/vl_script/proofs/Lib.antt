pub mod Cuts
pub mod Names
pub mod Numerals
pub mod OneLine
