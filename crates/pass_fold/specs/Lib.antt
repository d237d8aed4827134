pub mod Makes
pub mod Views
pub mod Steps
pub mod Whole
