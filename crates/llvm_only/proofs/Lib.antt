pub mod LlvmLayers
