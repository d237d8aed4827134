pub mod TableLaws
pub mod BranchLaws
