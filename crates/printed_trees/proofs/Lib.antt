pub mod Fronts
pub mod Suffixes
pub mod Fused
pub mod Steps
pub mod Parts
pub mod Settled
pub mod OpTrees
pub mod ModuleTrees
