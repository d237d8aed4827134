pub mod Kept
pub mod PlainWords
pub mod TypeWords
pub mod AttrWords
pub mod OpWords
pub mod EventLemmas
