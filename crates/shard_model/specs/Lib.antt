pub mod Shards
pub mod Promises
