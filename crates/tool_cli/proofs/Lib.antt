pub mod Lowers
pub mod Verdicts
pub mod OneReply
pub mod Bytes
pub mod Statuses
