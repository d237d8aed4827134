-- What contracts say of a list.
pub mod Listed
