pub mod Examples
pub mod Leaves
pub mod Lines
pub mod Plans
pub mod Rounds
pub mod Views
