pub mod Examples
pub mod Extremes
pub mod Readings
pub mod Quotients
pub mod Offsets
