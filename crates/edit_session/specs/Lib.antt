pub mod Contents
pub mod Known
pub mod Sessions
pub mod Tests
