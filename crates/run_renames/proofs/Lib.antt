pub mod RenamedCodes
pub mod RenamedDoings
pub mod RenamedSteps
pub mod RenamedRuns
pub mod RenamedModules
pub mod Examples
