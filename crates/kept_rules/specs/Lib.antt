pub mod Promises
pub mod Casts
