pub mod Follow
pub mod Generic
pub mod RunLemmas
pub mod ReadLemmas
pub mod LongLemmas
pub mod WordLemmas
pub mod OnceLemmas
