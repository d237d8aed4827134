pub mod ChangedLaws
pub mod ChangedLayers
