pub mod Paths
pub mod Placed
pub mod Sizes
pub mod ViaShapes
