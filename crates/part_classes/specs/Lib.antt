pub mod Forest
pub mod Laws
