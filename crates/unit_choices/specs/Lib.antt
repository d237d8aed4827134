pub mod Orders
pub mod Lines
pub mod Separate
pub mod Entries
pub mod Choosing
pub mod Slotting
pub mod Memos
pub mod Answers
