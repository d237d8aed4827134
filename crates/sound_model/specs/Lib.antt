pub mod Refinement
pub mod Runs
pub mod Soundness
pub mod Agreement
