pub mod Blocked
pub mod EntryNames
pub mod OffLayer
pub mod References
pub mod Unchecked
pub mod Unknown
pub mod ViaLayers
pub mod WireItems
