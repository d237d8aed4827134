pub mod Gathering
pub mod PropertyLayers
pub mod TypeLayers
pub mod ClassTable
pub mod SeenLemmas
pub mod FormLemmas
pub mod RecastLemmas
pub mod SameTypes
