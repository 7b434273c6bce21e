pub mod WiringViews
