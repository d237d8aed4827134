pub mod PlaceLaws
pub mod PlaceLists
pub mod NamedOps
