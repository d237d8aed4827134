pub mod Finely
pub mod Coarse
pub mod Moves
pub mod Texts
pub mod Ranges
pub mod Signatures
