pub mod First
pub mod Tables
pub mod Numbering
