pub mod Branches
pub mod Table
