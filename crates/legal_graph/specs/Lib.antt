pub mod Depths
pub mod Orders
pub mod Listed
pub mod Graphs
