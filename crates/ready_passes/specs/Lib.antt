pub mod Runs
pub mod Roots
pub mod Used
