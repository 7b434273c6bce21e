pub mod Rounding
pub mod Unique
pub mod Sizes
pub mod Shorts
