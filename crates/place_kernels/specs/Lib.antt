pub mod Laws
pub mod Stars
pub mod Views
