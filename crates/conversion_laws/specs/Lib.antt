pub mod NewTrees
pub mod PlainRows
