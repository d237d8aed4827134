pub mod Passes
pub mod Kinds
pub mod Words
pub mod Grammar
pub mod Reading
pub mod Printing
pub mod Promises
