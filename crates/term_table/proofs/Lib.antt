pub mod NodeEq
pub mod TableLaws
