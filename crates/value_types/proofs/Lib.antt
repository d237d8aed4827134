pub mod Opens
pub mod SameTypes
pub mod Layers
