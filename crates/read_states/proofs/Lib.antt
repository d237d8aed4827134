pub mod Moves
pub mod Words
pub mod Parts
pub mod Forms
pub mod Counting
pub mod Bodies
pub mod Stages
