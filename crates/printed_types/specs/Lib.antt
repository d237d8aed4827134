pub mod TypeWords
pub mod Laws
