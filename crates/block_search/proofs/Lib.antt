pub mod Marking
pub mod Going
