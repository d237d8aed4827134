pub mod Shapes
pub mod Lines
pub mod Straight
pub mod Infos
