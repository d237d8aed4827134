pub mod Values
pub mod Pures
pub mod Doings
pub mod Calling
pub mod Forms
pub mod Straight
