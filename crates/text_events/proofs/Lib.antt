pub mod FirstLemmas
pub mod NameLemmas
pub mod LookLemmas
pub mod LanguageLemmas
pub mod SourceLemmas
pub mod Examples
