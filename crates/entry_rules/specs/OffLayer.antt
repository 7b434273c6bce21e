-- Lines on vias in paths that don't join the layer of their wire to another (own). What is known of a via are its layers of
-- TYPE ROUTING, each once; where it has exactly two, and the present layer is one of them, the wire goes on on the other.
use Rattle.std.specs.Prelude.{ℕ, List, [], ◌∷◌, ◌++◌, map, flat_map, Option, Some, None, if◌then◌else◌}
use Rattle.std.specs.List.{filter_map}
use Rattle.design_model.specs.declared.diagnostic.DiagKind.TheVariants.{ViaLayer}
use Rattle.design_model.specs.EnumWords.{section_word}
use Rattle.design_model.specs.Lines.{line_text}
use Rattle.def_grammar.specs.Nets.{NetEntry, must_join, is_net}
use Rattle.def_grammar.specs.NetWires.{net_wires}
use Rattle.def_grammar.specs.SpecialWires.{special_net_wires}
use Rattle.def_grammar.specs.Wiring.{WireVia, SpecialVia, Wire, SpecialWire, via_of_item}
use Rattle.def_grammar.specs.Records as records
use Rattle.def_grammar.specs.Records.{Record, Entry, entry, section_of, name_of}
use Rattle.lef_grammar.specs.Library.{Library}
use Rattle.wire_rules.specs.Paths.{layer_over, or_same, other_layer}
use Rattle.entry_rules.specs.Unknown.{name_or_dash}
use Rattle.entry_rules.specs.ViaLayers.{via_layers}

-- the layers of TYPE ROUTING of each via that is known
abbrev pub ViaLayers : Type 0
ViaLayers = List ℕ → Option (List (List ℕ))

abbrev pub named_if : List ℕ → Option (List ℕ) → List (List ℕ)
named_if name None = name ∷ []
named_if name (Some other) = []

-- a via that is known and doesn't join a layer to another
abbrev pub off_layer : List ℕ → List ℕ → Option (List (List ℕ)) → List (List ℕ)
off_layer layer name None = []
off_layer layer name (Some layers) = named_if name (other_layer layer layers)

module _ (layers : ViaLayers) where
  -- of vias one after the other, from a layer on, those that don't join
  unfoldable pub off_layer_vias : List ℕ → List (List ℕ) → List (List ℕ)
  off_layer_vias layer [] = []
  off_layer_vias layer (name ∷ names) = off_layer layer name (layers name) ++ off_layer_vias (or_same layer (layer_over layer (layers name))) names

  abbrev pub off_layer_in_wire : Wire → List (List ℕ)
  off_layer_in_wire w = off_layer_vias w.layer (filter_map (via_of_item (λ (v : WireVia). v)) w.path.items)

  abbrev pub off_layer_in_special_wire : SpecialWire → List (List ℕ)
  off_layer_in_special_wire w = off_layer_vias w.layer (filter_map (via_of_item (λ (v : SpecialVia). v.via)) w.path.items)

  -- those of an entry
  abbrev pub off_layer_in : Entry → List (List ℕ)
  off_layer_in (records.net (is_net n)) = flat_map off_layer_in_wire (net_wires n)
  off_layer_in (records.special_net n) = flat_map off_layer_in_special_wire (special_net_wires n)
  off_layer_in _ = []

  -- `vialayer v S o`
  abbrev pub off_layer_lines_of : Record → List (List ℕ)
  off_layer_lines_of (entry e) = map (λ via. line_text ViaLayer (via ∷ section_word (section_of e) ∷ name_or_dash (name_of e) ∷ []) []) (off_layer_in e)
  off_layer_lines_of _ = []

-- all lines on vias' layers
abbrev pub off_layer_lines : Library → List Record → List (List ℕ)
off_layer_lines library design = flat_map (off_layer_lines_of (via_layers library design)) design
