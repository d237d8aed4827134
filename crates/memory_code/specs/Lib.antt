pub mod Stands
pub mod CellsStand
