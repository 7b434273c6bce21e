pub mod Classes
pub mod Meeting
