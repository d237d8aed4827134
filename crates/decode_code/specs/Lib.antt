pub mod TypesIn
pub mod CodeBy
pub mod Readings
pub mod Signatures
pub mod Finding
