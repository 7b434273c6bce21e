pub mod PartShapes
