pub mod BoxLaws
pub mod BoxShapes
pub mod Boxes
