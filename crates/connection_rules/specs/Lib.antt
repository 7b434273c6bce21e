pub mod NetLines
pub mod NetParts
pub mod PartClasses
pub mod PinShapes
pub mod Terminals
