pub mod Trees
pub mod Seen
pub mod Forms
pub mod Table
