pub mod Sequences
pub mod Promises
