pub mod Flat
pub mod Own
pub mod Ranks
pub mod Views
