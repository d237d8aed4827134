pub mod AttrBytes
pub mod Trees
pub mod Modules
pub mod WordBytes
