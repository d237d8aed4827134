pub mod Plain
pub mod Drafts
pub mod Givens
pub mod Own
pub mod Choosing
pub mod Infos
