pub mod Tests
pub mod Firsts
