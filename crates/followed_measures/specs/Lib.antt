pub mod Bounds
pub mod Cells
pub mod ExchangedNets
pub mod Exchanging
pub mod FollowedMeasures
pub mod Told
pub mod ToldViews
