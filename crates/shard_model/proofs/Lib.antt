pub mod Places
pub mod Finite
pub mod ShardLaws
