pub mod Picks
pub mod DimRow
pub mod Allocated
pub mod Described
pub mod AllocRuns
pub mod AllocTypes
pub mod AllocRow
