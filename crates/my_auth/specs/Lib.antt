pub mod Capabilities
pub mod Checking
pub mod Handshake
pub mod Reading
pub mod Salt
pub mod Spelling
pub mod Token
pub mod UsersFile
