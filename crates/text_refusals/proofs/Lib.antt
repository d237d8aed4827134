pub mod SeenLemmas
pub mod PlacedLemmas
pub mod MarkedLemmas
pub mod ClassLemmas
