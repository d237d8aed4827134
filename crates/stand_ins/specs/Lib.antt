pub mod Forests
pub mod Tables
