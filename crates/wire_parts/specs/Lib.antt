pub mod NetViews
pub mod NetWireViews
pub mod PathViews
pub mod SpecialNetViews
pub mod SpecialWireViews
pub mod TerminalViews
pub mod WiresLeft
pub mod WiringViews
