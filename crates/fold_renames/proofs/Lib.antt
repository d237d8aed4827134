pub mod FreshRenames
pub mod FoldRenames
