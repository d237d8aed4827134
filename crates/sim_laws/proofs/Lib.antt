pub mod Simulation
pub mod Entries
pub mod Lines
pub mod Local
pub mod Matches
pub mod Changed
