pub mod WalkLayers
