pub mod Counted
pub mod Sites
pub mod Sources
pub mod Functions
pub mod PlainRows
pub mod Meaning
pub mod UnusedCasts
