pub mod Worlds
pub mod Machine
pub mod Structured
