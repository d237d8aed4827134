pub mod RootLaws
pub mod PassLaws
pub mod OrderLaws
