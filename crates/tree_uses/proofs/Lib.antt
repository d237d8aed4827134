pub mod Layers
pub mod ListLaws
pub mod RoomLaws
