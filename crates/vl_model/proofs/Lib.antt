pub mod OneTable
pub mod Sounding
pub mod Taking
pub mod Worked
