pub mod Refining
pub mod Agreeing
pub mod Examples
pub mod AgreementExamples
