pub mod Rereading
pub mod Segments
pub mod Steps
pub mod Texts
pub mod Windows
