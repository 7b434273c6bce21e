pub mod Barriers
pub mod Laws
pub mod Layers
pub mod ShapeViews
pub mod ThingViews
pub mod Things
