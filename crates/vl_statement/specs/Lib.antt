pub mod Effects
pub mod Refusing
pub mod Tallies
pub mod Waiting
