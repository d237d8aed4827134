pub mod RollLaws
pub mod BuildSteps
