pub mod Buffers
pub mod Cells
pub mod Meaning
pub mod Promises
