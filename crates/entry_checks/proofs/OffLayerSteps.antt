-- The vias off their layer among the references of a net are those of its wires.
use Rattle.std.proofs.Common.{◌≡◌, ℕ, Bool, true, false, List, [], ◌∷◌, ◌++◌, ◌||◌, map, flat_map, Option, Some, None, refl, sym, ap, ◌∙◌, append_assoc, if◌then◌else◌}
use Rattle.std.specs.List.{filter_map}
use Rattle.std.specs.Option.{option_map, option_to_list}
use Rattle.form_meanings.specs.Firsts.{first_of}
use Rattle.wire_rules.specs.Paths.{layer_over, or_same}
use Rattle.def_grammar.specs.Nets.{Net, NetEntry, must_join, is_net, rule_of_clause}
use Rattle.def_grammar.specs.NetWires.{net_wires}
use Rattle.def_grammar.specs.Records.{net}
use Rattle.def_grammar.specs.Terminals.{Terminal, is_of_all, is_virtual}
use Rattle.def_grammar.specs.Wiring.{Taper, tapered, tapered_by, not_tapered, Wire, WireVia, via_of_item}
use Rattle.entry_rules.specs.OffLayer.{ViaLayers, off_layer, off_layer_in, off_layer_in_wire, off_layer_vias}
use Rattle.entry_rules.specs.References.{Reference, to_rule, to_terminal, to_via, net_references, taper_references, terminal_references, wire_references}
use Rattle.entry_checks.specs.OffLayerViews.{off_layer_among}

module _ (layers : ViaLayers) where
  -- the vias of a wire, where what comes after it doesn't ask on which layer it ends
  past_vias : (layer : List ℕ) (names : List (List ℕ)) (rest : List Reference) (those : List (List ℕ)) → ((l : List ℕ) → off_layer_among layers l rest ≡ those)
      → off_layer_among layers layer (map to_via names ++ rest) ≡ off_layer_vias layers layer names ++ those
  unfolding off_layer_among off_layer_vias
  past_vias layer [] rest those anew = anew layer
  past_vias layer (name ∷ names) rest those anew =
      let next = or_same layer (layer_over layer (layers name)) in
      ap (λ (z : List (List ℕ)). off_layer layer name (layers name) ++ z) (past_vias next names rest those anew)
      ∙ sym (append_assoc (off_layer layer name (layers name)) (off_layer_vias layers next names) those)

  past_taper : (layer : List ℕ) (t : Taper) (rest : List Reference) → off_layer_among layers layer (taper_references t ++ rest) ≡ off_layer_among layers layer rest
  unfolding off_layer_among
  past_taper layer tapered rest = refl
  past_taper layer (tapered_by name) rest = refl
  past_taper layer not_tapered rest = refl

  past_wires : (layer : List ℕ) (ws : List Wire) → off_layer_among layers layer (flat_map wire_references ws) ≡ flat_map (off_layer_in_wire layers) ws
  unfolding off_layer_among
  past_wires layer [] = refl
  past_wires layer (w ∷ ws) =
      let names = filter_map (via_of_item (λ (v : WireVia). v)) w.path.items in
      let rest = flat_map wire_references ws in
      ap (off_layer_among layers w.layer) (append_assoc (taper_references w.taper) (map to_via names) rest)
      ∙ past_taper w.layer w.taper (map to_via names ++ rest)
      ∙ past_vias w.layer names rest (flat_map (off_layer_in_wire layers) ws) (λ l. past_wires l ws)

  past_if : (b : Bool) (layer owner name : List ℕ) (rest : List Reference) → off_layer_among layers layer ((if b then [] else to_terminal owner name ∷ []) ++ rest) ≡ off_layer_among layers layer rest
  unfolding off_layer_among
  past_if true layer owner name rest = refl
  past_if false layer owner name rest = refl

  past_terminals : (layer : List ℕ) (ts : List Terminal) (rest : List Reference) → off_layer_among layers layer (flat_map terminal_references ts ++ rest) ≡ off_layer_among layers layer rest
  past_terminals layer [] rest = refl
  past_terminals layer (t ∷ ts) rest =
      ap (off_layer_among layers layer) (append_assoc (terminal_references t) (flat_map terminal_references ts) rest)
      ∙ past_if (is_of_all t || is_virtual t) layer t.owner t.pin (flat_map terminal_references ts ++ rest)
      ∙ past_terminals layer ts rest

  past_rule : (o : Option (List ℕ)) (layer : List ℕ) (rest : List Reference) → off_layer_among layers layer (option_to_list (option_map to_rule o) ++ rest) ≡ off_layer_among layers layer rest
  unfolding off_layer_among
  past_rule None layer rest = refl
  past_rule (Some name) layer rest = refl

  off_layer_of_net : (layer : List ℕ) (n : Net) → off_layer_among layers layer (net_references (is_net n)) ≡ flat_map (off_layer_in_wire layers) (net_wires n)
  off_layer_of_net layer n =
      let rule = option_to_list (option_map to_rule (first_of rule_of_clause n.clauses)) in
      let wires = flat_map wire_references (net_wires n) in
      ap (off_layer_among layers layer) (append_assoc (flat_map terminal_references n.terminals) rule wires)
      ∙ past_terminals layer n.terminals (rule ++ wires)
      ∙ past_rule (first_of rule_of_clause n.clauses) layer wires
      ∙ past_wires layer (net_wires n)

  -- of an entry of NETS
  pub off_layer_of_entry : (layer : List ℕ) (e : NetEntry) → off_layer_among layers layer (net_references e) ≡ off_layer_in layers (net e)
  unfolding off_layer_among
  off_layer_of_entry layer (must_join tokens) = refl
  off_layer_of_entry layer (is_net n) = off_layer_of_net layer n
