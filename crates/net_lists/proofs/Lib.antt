pub mod BuildingLemmas
pub mod CutLemmas
pub mod GrowLemmas
pub mod ShapeLemmas
pub mod NextLemmas
