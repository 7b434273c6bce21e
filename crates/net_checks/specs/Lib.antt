pub mod BarrierViews
pub mod Drawings
pub mod NearWithin
