pub mod TableLaws
pub mod FieldLaws
pub mod EntryLaws
pub mod PartLaws
pub mod SameTypes
