pub mod LevelLemmas
pub mod SeenLemmas
pub mod TurnLemmas
pub mod SightLemmas
