pub mod Frames
pub mod Sketches
pub mod Pieces
