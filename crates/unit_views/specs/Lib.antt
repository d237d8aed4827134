pub mod Modes
pub mod Seen
