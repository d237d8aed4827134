pub mod Journal
pub mod NewOps
