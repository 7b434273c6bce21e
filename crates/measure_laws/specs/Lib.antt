pub mod BoxLaws
pub mod CellLaws
pub mod DensityLaws
pub mod LengthLaws
pub mod LineLaws
pub mod RangeLaws
