-- The walk that names the values of a function.
pub mod Walk
pub mod Counts
