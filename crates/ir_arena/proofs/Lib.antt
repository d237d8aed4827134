pub mod NumberLaws
pub mod BuildLaws
pub mod ReaderLaws
pub mod FinishLaws
pub mod ToTreeLaws
pub mod ModuleLaws
pub mod CellLaws
pub mod ClosingLaws
