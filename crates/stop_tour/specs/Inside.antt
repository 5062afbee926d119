-- The layered net, its bounds and its reading, which are no law (source: own).
pub mod LayerBounds
pub mod Layers
pub mod Unlayering
