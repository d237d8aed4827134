pub mod Fine
pub mod Moved
pub mod Texts
pub mod Laws
