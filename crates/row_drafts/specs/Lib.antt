pub mod Writes
pub mod Buffers
