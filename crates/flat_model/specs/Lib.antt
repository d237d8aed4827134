pub mod Flat
pub mod Shows
pub mod Growth
pub mod Renamed
