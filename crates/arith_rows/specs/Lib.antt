pub mod Widths
pub mod Table
