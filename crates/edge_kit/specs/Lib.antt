-- What contracts say of sources, sinks and words.
pub mod Edges
pub mod Memory
