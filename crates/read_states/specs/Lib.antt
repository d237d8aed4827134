pub mod Numbering
pub mod States
pub mod Levels
pub mod Laws
