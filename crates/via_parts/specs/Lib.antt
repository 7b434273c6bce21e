pub mod RuleViews
pub mod ViaViews
