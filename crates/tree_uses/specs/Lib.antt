pub mod Edited
pub mod Rooms
