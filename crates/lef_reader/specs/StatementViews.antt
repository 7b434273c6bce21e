-- Statements of a LEF text: the program's as those of the definitions, and which tokens they are.
use Rattle.std.specs.Prelude.{List}
use Rattle.statement_model.specs.Tokens.{Token}
use Rattle.lef_grammar.specs.LefRecords.{LefRecord, outside, in_layer, in_site, in_via, in_rule, in_rule_layer, in_macro, in_pin, in_port, in_kept}
use Rattle.lef_reader.specs.declared.statement.LefStatement.{LefStatement}
use Rattle.lef_reader.specs.declared.statement.LefStatement.TheVariants as variants
use Rattle.lef_reader.specs.KeptViews.{kept_view, KeptAt}
use Rattle.lef_reader.specs.LayerViews.{layer_view, LayerAt}
use Rattle.lef_reader.specs.MacroViews.{macro_view, MacroAt}
use Rattle.lef_reader.specs.OutermostViews.{outermost_view, OutermostAt}
use Rattle.lef_reader.specs.PinViews.{pin_view, PinAt}
use Rattle.lef_reader.specs.PortViews.{port_view, PortAt}
use Rattle.lef_reader.specs.RuleViews.{rule_view, RuleAt, rule_layer_view, RuleLayerAt}
use Rattle.lef_reader.specs.SiteViews.{site_view, SiteAt}
use Rattle.lef_reader.specs.ViaViews.{via_view, ViaAt}
pub use Rattle.lef_reader.specs.BlockViews.{block_view}

abbrev pub lef_view : LefStatement → LefRecord
lef_view (variants.Outside s) = outside (outermost_view s)
lef_view (variants.InLayer s) = in_layer (layer_view s)
lef_view (variants.InSite s) = in_site (site_view s)
lef_view (variants.InVia s) = in_via (via_view s)
lef_view (variants.InRule s) = in_rule (rule_view s)
lef_view (variants.InRuleLayer s) = in_rule_layer (rule_layer_view s)
lef_view (variants.InMacro s) = in_macro (macro_view s)
lef_view (variants.InPin s) = in_pin (pin_view s)
lef_view (variants.InPort s) = in_port (port_view s)
lef_view (variants.InKept s) = in_kept (kept_view s)

abbrev pub StatementAt : List Token → LefStatement → Type 0
StatementAt ps (variants.Outside s) = OutermostAt ps s
StatementAt ps (variants.InLayer s) = LayerAt ps s
StatementAt ps (variants.InSite s) = SiteAt ps s
StatementAt ps (variants.InVia s) = ViaAt ps s
StatementAt ps (variants.InRule s) = RuleAt ps s
StatementAt ps (variants.InRuleLayer s) = RuleLayerAt ps s
StatementAt ps (variants.InMacro s) = MacroAt ps s
StatementAt ps (variants.InPin s) = PinAt ps s
StatementAt ps (variants.InPort s) = PortAt ps s
StatementAt ps (variants.InKept s) = KeptAt ps s
