pub mod Holding
pub mod Keeping
pub mod Finding
pub mod OneTable
pub mod Sounding
pub mod Keys
pub mod Answering
