pub mod Spelling
pub mod Classes
pub mod Refusing
pub mod Found
pub mod Placed
pub mod Findings
