pub mod Chains
pub mod Layers
pub mod Makers
pub mod Noting
pub mod RankLaws
pub mod Sites
