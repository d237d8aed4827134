pub mod Numbers
pub mod Reached
pub mod Places
pub mod Own
pub mod InPlaces
pub mod Decisions
pub mod Firsts
pub mod RenamedFacts
pub mod RenamedPaths
pub mod RenamedFormed
pub mod RenamedModules
pub mod InFront
pub mod ScopeLaws
pub mod Trees
mod OperandExamples
mod PartExamples
mod ControlExamples
mod SymbolExamples
mod PathExamples
mod FormedExamples
