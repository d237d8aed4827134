pub mod AlikeLaws
pub mod NumbersLaws
pub mod RenamingLaws
