pub mod Named
pub mod Touching
