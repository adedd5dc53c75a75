pub mod JoinedText
pub mod KeyText
pub mod Listed
pub mod ShardText
pub mod Shown
