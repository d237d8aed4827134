pub mod Productions
pub mod Finds
pub mod Cuts
pub mod Places
pub mod Spelled
pub mod Printed
pub mod Answers
pub mod Unnamed
