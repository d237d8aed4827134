pub mod Spans
pub mod Carried
