pub mod Wording
pub mod Attrs
pub mod Dictionaries
pub mod Numbers
pub mod Roles
pub mod Levels
pub mod Modules
pub mod Written
