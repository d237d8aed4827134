pub mod Opens
pub mod Keeping
pub mod Parting
