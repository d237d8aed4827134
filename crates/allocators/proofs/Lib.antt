pub mod LookLaws
pub mod DeclarationLaws
pub mod StepLaws
