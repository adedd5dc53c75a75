pub mod LeastPath
pub mod NameSteps
pub mod Ordering
pub mod Rules
pub mod Viewing
