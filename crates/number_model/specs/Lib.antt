pub mod Numbers
pub mod Answers
pub mod Arithmetic
pub mod Promises
