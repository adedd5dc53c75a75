pub mod ColumnVindexes
pub mod Kept
pub mod Limits
pub mod Lookups
pub mod Order
pub mod RuleNumber
pub mod Tables
