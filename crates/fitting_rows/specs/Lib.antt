pub mod Typed
pub mod Widths
pub mod Promises
