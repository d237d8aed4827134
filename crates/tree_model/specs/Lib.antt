-- What contracts say of names and of what the makers make.
pub mod Known
pub mod Forms
pub mod Makers
