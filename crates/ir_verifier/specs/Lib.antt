pub mod Telling
pub mod Sooner
pub mod Numbering
pub mod Promises
