pub mod Definitions
pub mod FoundVias
pub mod JoinedLayers
pub mod Kept
pub mod OffLayerViews
pub mod UncheckedViews
pub mod Views
