pub mod OpWords
pub mod Named
pub mod Laws
