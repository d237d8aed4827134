pub mod ClassExamples
pub mod DecodingExamples
