pub mod AliasKinds
pub mod PartKinds
