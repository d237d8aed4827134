pub mod Lines
pub mod Fits
pub mod Kept
pub mod Promises
