pub mod Seen
pub mod Names
pub mod Levels
pub mod Sights
pub mod Bodies
pub mod Tables
pub mod Examples
