pub mod Branches
pub mod Promises
