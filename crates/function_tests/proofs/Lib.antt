pub mod Heads
pub mod Targets
pub mod Runs
pub mod SiteFacts
