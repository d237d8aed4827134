pub mod Sets
pub mod Firsts
pub mod Laws
pub mod Many
pub mod Whole
pub mod Loops
