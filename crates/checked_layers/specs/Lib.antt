pub mod CheckedLayers
pub mod LastLayers
