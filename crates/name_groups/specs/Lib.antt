pub mod GroupViews
pub mod Groups
pub mod Laws
