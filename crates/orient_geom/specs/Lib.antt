pub mod Covering
pub mod Laws
pub mod Meeting
pub mod Strips
