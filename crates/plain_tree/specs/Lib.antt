pub mod Types
pub mod ValueTypes
pub mod Attrs
pub mod Ops
pub mod Values
pub mod Renamings
pub mod Promises
