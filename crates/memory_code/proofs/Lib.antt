pub mod ByteLaws
pub mod HeapLaws
pub mod CellLaws
