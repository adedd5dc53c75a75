pub mod BuiltIn
pub mod FirstBroken
pub mod KeyRest
pub mod Listed
pub mod Lists
pub mod LookupsKept
pub mod Passed
pub mod TablesKept
mod TwoKeyspaces
pub mod OwnersExist
