pub mod Arena
pub mod Building
pub mod Handed
pub mod Modules
pub mod Closing
