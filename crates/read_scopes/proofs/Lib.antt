pub mod Mapped
pub mod Turned
pub mod Kept
pub mod Regions
pub mod Lists
pub mod Events
pub mod Texts
