-- Entries of the program as those of the definitions, and which tokens they are.
use Rattle.std.specs.Prelude.{Bool, true, false, List}
use Rattle.statement_model.specs.Tokens.{Token}
use Rattle.design_model.specs.declared.mode.Section.{Section}
use Rattle.design_model.specs.declared.mode.Section.TheVariants.{Components, Pins, Regions, Groups, Blockages}
use Rattle.def_grammar.specs.Records.{Entry, component, pin, region, group, blockage, net, special_net, via, rule, skipped}
use Rattle.lefdef_tokens.specs.Places.{RunAt, past}
use Rattle.lefdef_tokens.specs.Views.{words_of}
use Rattle.place_parts.specs.AgainViews.{BlockageBegins, RegionBegins, blockage_at_view, region_at_view}
use Rattle.place_parts.specs.ComponentViews.{ComponentAt, component_view}
use Rattle.place_parts.specs.GroupViews.{GroupAt, group_view}
use Rattle.place_parts.specs.PinViews.{PinAt, pin_view}
use Rattle.via_parts.specs.RuleViews.{RuleAt, rule_view}
use Rattle.via_parts.specs.ViaViews.{ViaAt, via_view}
use Rattle.wire_parts.specs.NetViews.{NetEntryAt, net_entry_view}
use Rattle.wire_parts.specs.SpecialNetViews.{SpecialNetAt, special_net_view}
use Rattle.def_reader.specs.declared.entry.Entry as code
use Rattle.def_reader.specs.declared.entry.Entry.TheVariants as variants

abbrev pub is_place_section : Section → Bool
is_place_section Components = true
is_place_section Pins = true
is_place_section Regions = true
is_place_section Groups = true
is_place_section Blockages = true
is_place_section _ = false

abbrev pub entry_view : code.Entry → Entry
entry_view (variants.Component parts) = component (component_view parts)
entry_view (variants.Pin parts) = pin (pin_view parts)
entry_view (variants.Region at) = region (region_at_view at)
entry_view (variants.Group parts) = group (group_view parts)
entry_view (variants.Blockage at) = blockage (blockage_at_view at)
entry_view (variants.Net entry) = net (net_entry_view entry)
entry_view (variants.SpecialNet parts) = special_net (special_net_view parts)
entry_view (variants.Via parts) = via (via_view parts)
entry_view (variants.Rule parts) = rule (rule_view parts)
entry_view (variants.Skipped s tokens) = skipped s (words_of tokens)

-- the parts of an entry that begins with the first of these tokens
abbrev pub EntryAt : List Token → code.Entry → Type 0
EntryAt ps (variants.Component parts) = ComponentAt ps parts
EntryAt ps (variants.Pin parts) = PinAt ps parts
EntryAt ps (variants.Region at) = RegionBegins ps at
EntryAt ps (variants.Group parts) = GroupAt ps parts
EntryAt ps (variants.Blockage at) = BlockageBegins ps at
EntryAt ps (variants.Net entry) = NetEntryAt (past 1 ps) entry
EntryAt ps (variants.SpecialNet parts) = SpecialNetAt ps parts
EntryAt ps (variants.Via parts) = ViaAt ps parts
EntryAt ps (variants.Rule parts) = RuleAt ps parts
EntryAt ps (variants.Skipped s tokens) = RunAt (past 1 ps) tokens
