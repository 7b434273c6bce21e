pub mod Density
pub mod GridCells
pub mod Lengths
pub mod NetBoxes
