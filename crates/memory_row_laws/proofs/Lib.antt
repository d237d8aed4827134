pub mod MemoryForms
pub mod MemrefRows
pub mod SameTypes
pub mod DraftRuns
pub mod DraftTypes
pub mod Elements
pub mod ElementRows
pub mod MemorySet
