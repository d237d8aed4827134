pub mod Standing
pub mod Fitting
pub mod Naming
pub mod Laws
