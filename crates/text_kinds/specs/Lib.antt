pub mod Classes
pub mod Tallies
pub mod Shapes
pub mod Kinds
pub mod Texts
pub mod Plain
pub mod Examples
