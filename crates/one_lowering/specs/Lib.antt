pub mod Lowerings
