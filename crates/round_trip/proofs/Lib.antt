pub mod ClassLemmas
pub mod NameLemmas
pub mod TextLemmas
