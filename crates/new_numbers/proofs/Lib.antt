pub mod TopLayers
pub mod TopLaws
pub mod FreshTables
pub mod PlaceLaws
