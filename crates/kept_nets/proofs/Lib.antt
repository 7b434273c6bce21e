mod Hanging
mod HeldParts
mod Known
mod NearParts
mod PartsAt
mod PlacedParts
mod Sums
mod SureShapes
pub mod Taken
mod Telling
mod Touching
