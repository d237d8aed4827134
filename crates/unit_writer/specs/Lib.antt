pub mod Pages
pub mod Copies
pub mod Says
pub mod Sizes
pub mod Names
pub mod Writes
pub mod Functions
