-- The laws of the texts.
pub mod PrintedLemmas
