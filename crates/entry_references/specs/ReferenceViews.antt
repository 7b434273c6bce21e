-- References of the program as those of the definitions.
use Rattle.std.specs.Prelude.{ℕ, Bool, false, List, map}
use Rattle.std.specs.Str.{bytes_eq}
use Rattle.def_grammar.specs.Wiring.{WireVia, SpecialVia, wire_via, special_via}
use Rattle.statement_reader.specs.declared.parts.Parts.{Parts}
use Rattle.wire_parts.specs.PathViews.{items_of}
use Rattle.wire_parts.specs.declared.paths.PathItem.{PathItem}
use Rattle.wire_parts.specs.declared.paths.SpecialVia as code_special
use Rattle.wire_parts.specs.declared.paths.WireVia as code_via
use Rattle.entry_rules.specs.References.{item_references, Reference, to_macro, to_region, to_site, to_layer, to_via, to_rule, to_net, to_terminal}
use Rattle.entry_references.specs.declared.reference.Reference as code
use Rattle.entry_references.specs.declared.reference.Reference.TheVariants as variants

abbrev pub reference_view : code.Reference → Reference
reference_view (variants.Macro name) = to_macro name.now
reference_view (variants.Region name) = to_region name.now
reference_view (variants.Site name) = to_site name.now
reference_view (variants.Layer name) = to_layer name.now
reference_view (variants.Via name) = to_via name.now
reference_view (variants.Rule name) = to_rule name.now
reference_view (variants.Net name) = to_net name.now
reference_view (variants.Terminal owner pin) = to_terminal owner.now pin.now

abbrev pub references_view : List code.Reference → List Reference
references_view found = map reference_view found

-- of the items that are left of a path
abbrev pub net_item_references : Parts (PathItem code_via.WireVia) → List Reference
net_item_references parts = item_references (λ (v : WireVia). v) (items_of wire_via parts)

abbrev pub special_item_references : Parts (PathItem code_special.SpecialVia) → List Reference
special_item_references parts = item_references (λ (v : SpecialVia). v.via) (items_of special_via parts)

abbrev pub is_to_layer : List ℕ → Reference → Bool
is_to_layer layer (to_layer name) = bytes_eq name layer
is_to_layer layer _ = false
