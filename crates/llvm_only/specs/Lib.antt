pub mod Llvm
pub mod Trees
