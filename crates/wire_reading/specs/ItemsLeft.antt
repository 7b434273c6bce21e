-- The items that are left of a path.
use Rattle.std.specs.Prelude.{List}
use Rattle.design_model.specs.declared.geometry.Point.{Point}
use Rattle.statement_reader.specs.declared.parts.Parts.{Parts}
use Rattle.def_grammar.specs.Wiring as wiring
use Rattle.entry_rules.specs.WireItems.{items_after, net_via, special_via}
use Rattle.wire_parts.specs.PathViews.{items_of}
use Rattle.wire_parts.specs.declared.paths.PathItem as code
use Rattle.wire_parts.specs.declared.paths.SpecialVia.{SpecialVia}
use Rattle.wire_parts.specs.declared.paths.WireVia.{WireVia}
use Rattle.wire_rules.specs.Paths.{PathItem}
use Rattle.wire_reading.specs.declared.items.WireItems.{WireItems}

-- what they give after the last point
abbrev pub items_left : {P : Type 0} → (Point → P → List PathItem) → WireItems P → List PathItem
items_left after w = after w.at w.left

-- of a path of NETS, and of one of SPECIALNETS
abbrev pub net_items_left : WireItems (Parts (code.PathItem WireVia)) → List PathItem
net_items_left w = items_after net_via w.at (items_of wiring.wire_via w.left)

abbrev pub special_items_left : WireItems (Parts (code.PathItem SpecialVia)) → List PathItem
special_items_left w = items_after special_via w.at (items_of wiring.special_via w.left)
