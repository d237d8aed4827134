pub mod Same
pub mod Written
pub mod Clashes
pub mod Flat
pub mod Laws
pub mod Examples
