pub mod Writes
pub mod Rooms
