pub mod ListLaws
pub mod SortLaws
pub mod RowLaws
