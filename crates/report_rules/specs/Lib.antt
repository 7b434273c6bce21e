pub mod Diagnostics
pub mod Output
