pub mod AttrOpens
pub mod ShapeLemmas
pub mod NumberLemmas
pub mod PartLemmas
pub mod FindingLemmas
