pub mod TextLemmas
pub mod KindLemmas
pub mod ReadLemmas
pub mod ApartLemmas
