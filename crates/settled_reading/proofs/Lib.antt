pub mod Sorted
pub mod AttrOrder
pub mod Trees
pub mod Modules
