pub mod Left
pub mod Views
pub mod Adds
pub mod Alone
