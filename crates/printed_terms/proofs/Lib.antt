pub mod NumberLemmas
pub mod SeenWords
pub mod TypeTerms
pub mod SpellLemmas
pub mod AttrTerms
