pub mod Escapes
pub mod Orders
pub mod Parts
