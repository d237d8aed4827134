pub mod Below
pub mod Front
pub mod Numbers
pub mod Verdicts
pub mod Least
