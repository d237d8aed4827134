pub mod Kinds
pub mod Places
pub mod Table
pub mod Text
pub mod Steps
pub mod TokenKinds
pub mod Words
pub mod Laws
