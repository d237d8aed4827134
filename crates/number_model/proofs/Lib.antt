pub mod Examples
pub mod Signed
pub mod Divisions
pub mod Ranges
pub mod Wrapping
pub mod Widths
