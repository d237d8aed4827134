pub mod Looks
pub mod Missing
