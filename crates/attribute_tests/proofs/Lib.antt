pub mod Opens
pub mod Others
