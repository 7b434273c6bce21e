pub mod Held
pub mod Joining
pub mod OwnedShapes
pub mod PieceLaws
pub mod ShortLaws
