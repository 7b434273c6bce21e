pub mod GapOrder
pub mod Near
pub mod Pushing
pub mod Shapes
pub mod TileLaws
pub mod TileOrder
pub mod Tiles
