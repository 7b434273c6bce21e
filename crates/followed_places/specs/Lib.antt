pub mod Halves
pub mod Lines
pub mod Placed
pub mod Places
pub mod Tests
