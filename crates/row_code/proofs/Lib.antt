pub mod WrapLaws
pub mod Opens
