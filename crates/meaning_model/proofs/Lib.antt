pub mod Examples
pub mod MemoryExamples
pub mod Runs
