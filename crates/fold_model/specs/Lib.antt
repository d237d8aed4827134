pub mod FreshFolds
pub mod Runs
