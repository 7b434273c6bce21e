pub mod NearPlaces
mod PlacedLists
mod TouchedLists
