pub mod Fields
pub mod Entries
pub mod Parts
pub mod Table
