pub mod WithoutNumbers
pub mod NumbersOf
pub mod Renaming
pub mod Same
pub mod Laws
