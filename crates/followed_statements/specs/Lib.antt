pub mod Following
pub mod Places
pub mod Seen
pub mod Telling
