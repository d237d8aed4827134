pub mod Numbering
pub mod Settled
pub mod Serving
pub mod Roles
pub mod Laws
