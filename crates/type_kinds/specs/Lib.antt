pub mod First
pub mod Begins
pub mod Sizes
pub mod Parts
pub mod Depths
pub mod Ranges
pub mod Counts
pub mod Examples
