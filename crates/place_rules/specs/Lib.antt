pub mod Covering
pub mod Patterns
pub mod Sites
