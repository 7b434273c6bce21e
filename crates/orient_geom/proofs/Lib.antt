pub mod CoverLaws
pub mod Overlapping
pub mod Placing
pub mod SharedPoints
pub mod Squares
pub mod Strips
pub mod Turning
