pub mod Boxes
pub mod CountLines
pub mod OverlapLines
pub mod PlaceLines
pub mod Surroundings
