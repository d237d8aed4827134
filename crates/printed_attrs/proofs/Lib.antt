pub mod TextLemmas
pub mod StringLemmas
pub mod ReadLemmas
pub mod ApartLemmas
