pub mod AttrWords
pub mod Readable
pub mod Laws
