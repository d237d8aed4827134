pub mod HandleTree
pub mod Effects
pub mod Uses
pub mod Cuts
pub mod Places
pub mod Moves
pub mod Shown
