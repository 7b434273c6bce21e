pub mod LefNumbers
pub mod NumberLaws
pub mod PartNumbers
pub mod PlaceNumbers
pub mod RecordNumbers
pub mod SizeLaws
pub mod TestLaws
pub mod WireNumbers
