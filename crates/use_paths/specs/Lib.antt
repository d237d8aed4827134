pub mod Blocks
pub mod Levels
pub mod Marked
pub mod Undefined
pub mod Uses
pub mod Views
