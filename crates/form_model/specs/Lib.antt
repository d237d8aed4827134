pub mod Codes
pub mod Types
pub mod Properties
pub mod Classes
pub mod Decoding
