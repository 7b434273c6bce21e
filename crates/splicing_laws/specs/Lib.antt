pub mod KeepingLaws
pub mod SliceLaws
pub mod SplicingLaws
pub mod WordLaws
