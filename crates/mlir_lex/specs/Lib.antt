pub mod Bytes
pub mod Tokens
pub mod Text
pub mod Scan
pub mod Laws
