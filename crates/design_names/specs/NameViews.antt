-- Statements that were read, and entries that are lent from them, as those of the definitions.
use Rattle.std.specs.Prelude.{Option, Some, None}
use denote.Ref.{Bor}
use Rattle.def_grammar.specs.Components.{Component}
use Rattle.def_grammar.specs.DefVias.{DefVia}
use Rattle.def_grammar.specs.Records.{Entry, component}
use Rattle.def_grammar.specs.Rules.{Rule}
use Rattle.place_parts.specs.ComponentViews.{component_view}
use Rattle.place_parts.specs.declared.component_parts.ComponentParts.{ComponentParts}
use Rattle.via_parts.specs.RuleViews.{rule_view}
use Rattle.via_parts.specs.ViaViews.{via_view}
use Rattle.via_parts.specs.declared.rules.RuleParts.{RuleParts}
use Rattle.via_parts.specs.declared.vias.ViaParts.{ViaParts}
use Rattle.def_reader.specs.EntryViews.{entry_view}
use Rattle.def_reader.specs.declared.entry.Entry as code

abbrev pub lent_entry : Bor code.Entry → Entry
lent_entry e = entry_view e.now

abbrev pub lent_component : Bor ComponentParts → Component
lent_component c = component_view c.now

abbrev pub lent_via : Bor ViaParts → DefVia
lent_via v = via_view v.now

abbrev pub lent_rule : Bor RuleParts → Rule
lent_rule r = rule_view r.now

abbrev pub component_of_entry : Entry → Option Component
component_of_entry (component c) = Some c
component_of_entry _ = None
