pub mod NetGroups
pub mod PinsAlone
