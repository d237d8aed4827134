pub mod Exact
pub mod CutLemmas
pub mod WordLemmas
pub mod ReadLemmas
pub mod NameLemmas
