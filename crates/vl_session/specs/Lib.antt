pub mod Ready
pub mod Saying
pub mod Standing
pub mod Turning
