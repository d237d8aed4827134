-- What the top call answers.
pub mod Codes
pub mod Told
pub mod Asking
pub mod Verdicts
pub mod Refusals
pub mod Behind
pub mod Replies
pub mod Runs
