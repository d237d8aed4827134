pub mod Order
pub mod Failures
