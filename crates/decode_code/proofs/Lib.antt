pub mod CodeLayers
pub mod ValueLayers
pub mod TypeLayers
pub mod FinderLemmas
