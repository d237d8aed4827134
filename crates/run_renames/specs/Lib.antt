pub mod Renamed
pub mod Promises
