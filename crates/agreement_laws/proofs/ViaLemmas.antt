-- Lines on vias whose layers are the same.
use Rattle.std.proofs.Common.{◌≡◌, ℕ, List, [], ◌∷◌, ◌++◌, Option, map, flat_map, refl, ap, ap₂, ◌∙◌}
use Rattle.std.specs.List.{AllByRecursion}
use Rattle.design_model.specs.declared.diagnostic.DiagKind.TheVariants.{ViaLayer}
use Rattle.design_model.specs.EnumWords.{section_word}
use Rattle.design_model.specs.Lines.{line_text}
use Rattle.def_grammar.specs.Nets.{is_net, must_join}
use Rattle.def_grammar.specs.NetWires.{net_wires}
use Rattle.def_grammar.specs.Records as records
use Rattle.def_grammar.specs.Records.{Entry, Record, end_section, entry, in_properties, name_of, section_of, top}
use Rattle.def_grammar.specs.SpecialWires.{special_net_wires}
use Rattle.wire_rules.specs.Paths.{layer_over, or_same}
use Rattle.entry_rules.specs.OffLayer.{ViaLayers, off_layer, off_layer_in, off_layer_lines_of, off_layer_vias}
use Rattle.entry_rules.specs.Unknown.{name_or_dash}
use Rattle.agreement_laws.specs.Agreement.{vias_of, vias_of_entry, vias_of_special_wire, vias_of_wire}

module _ (a b : ViaLayers) where
  abbrev Agree : List (List ℕ) → Type 0
  Agree names = AllByRecursion (λ (via : List ℕ). a via ≡ b via) names

  of_vias : (layer : List ℕ) (names : List (List ℕ)) → Agree names → off_layer_vias a layer names ≡ off_layer_vias b layer names
  unfolding off_layer_vias
  of_vias layer [] h = refl
  of_vias layer (name ∷ names) h =
      ap (λ (l : Option (List (List ℕ))). off_layer layer name l ++ off_layer_vias a (or_same layer (layer_over layer l)) names) h.0
      ∙ ap (λ (m : List (List ℕ)). off_layer layer name (b name) ++ m) (of_vias (or_same layer (layer_over layer (b name))) names h.1)

  front : (xs ys : List (List ℕ)) → Agree (xs ++ ys) → Agree xs
  front [] ys h = tt
  front (x ∷ xs) ys h = (h.0, front xs ys h.1)

  behind : (xs ys : List (List ℕ)) → Agree (xs ++ ys) → Agree ys
  behind [] ys h = h
  behind (x ∷ xs) ys h = behind xs ys h.1

  of_wires : {W : Type 0} (layer_of : W → List ℕ) (vias : W → List (List ℕ)) (ws : List W) → Agree (flat_map vias ws)
      → flat_map (λ w. off_layer_vias a (layer_of w) (vias w)) ws ≡ flat_map (λ w. off_layer_vias b (layer_of w) (vias w)) ws
  of_wires layer_of vias [] h = refl
  of_wires layer_of vias (w ∷ ws) h =
      ap₂ (λ (l m : List (List ℕ)). l ++ m) (of_vias (layer_of w) (vias w) (front (vias w) (flat_map vias ws) h)) (of_wires layer_of vias ws (behind (vias w) (flat_map vias ws) h))

  of_entry : (e : Entry) → Agree (vias_of_entry e) → off_layer_in a e ≡ off_layer_in b e
  of_entry (records.net (is_net n)) h = of_wires (λ w. w.layer) vias_of_wire (net_wires n) h
  of_entry (records.net (must_join t)) h = refl
  of_entry (records.special_net n) h = of_wires (λ w. w.layer) vias_of_special_wire (special_net_wires n) h
  of_entry (records.component x) h = refl
  of_entry (records.pin x) h = refl
  of_entry (records.region x) h = refl
  of_entry (records.group x) h = refl
  of_entry (records.blockage x) h = refl
  of_entry (records.via x) h = refl
  of_entry (records.rule x) h = refl
  of_entry (records.skipped s x) h = refl

  pub same_off_layer : (r : Record) → Agree (vias_of r) → off_layer_lines_of a r ≡ off_layer_lines_of b r
  same_off_layer (entry e) h = ap (map (λ via. line_text ViaLayer (via ∷ section_word (section_of e) ∷ name_or_dash (name_of e) ∷ []) [])) (of_entry e h)
  same_off_layer (top t) h = refl
  same_off_layer (in_properties p) h = refl
  same_off_layer (end_section s) h = refl
