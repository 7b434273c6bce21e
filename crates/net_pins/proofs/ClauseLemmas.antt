-- The clauses of a pin of the design, one by one.
use Rattle.std.proofs.Common.{◌≡◌, ℕ, Bool, true, false, ◌||◌, List, [], ◌∷◌, ◌++◌, flat_map, sym, ap, ◌∙◌, Option, if◌then◌else◌}
use Rattle.design_model.specs.declared.geometry.Orient.{Orient}
use Rattle.design_model.specs.declared.geometry.Point.{Point}
use Rattle.def_grammar.specs.Pins.{PinClause}
use Rattle.lef_grammar.specs.Definitions.{Layer}
use Rattle.wire_rules.specs.ViaShapes.{NamedShape}
use Rattle.connection_rules.specs.NetParts.{Net}
use Rattle.connection_rules.specs.PinShapes.{checked_named, clause_shapes, port_shapes, ports}
use Rattle.connection_rules.specs.Terminals.{is_some_shape}
use Rattle.net_lists.specs.Building.{with_shapes}
use Rattle.net_pins.specs.PortsLeft.{clause_if, is_port, place_ahead, shapes_left}
use Rattle.net_pins.proofs.PortLemmas.{all_ports}
use Rattle.net_pins.proofs.ShapeLemmas.{checked_both, some_in_both}

module _ (layers : List Layer) (vias : List ℕ → List NamedShape) where
  abbrev some_in : List PinClause → Bool
  some_in cs = is_some_shape (checked_named layers (flat_map (clause_shapes vias) cs))

  first_or_later : (c : PinClause) (rest : List PinClause) → some_in (c ∷ rest) ≡ (is_some_shape (checked_named layers (clause_shapes vias c)) || some_in rest)
  first_or_later c rest =
      ap is_some_shape (checked_both layers (clause_shapes vias c) (flat_map (clause_shapes vias) rest))
      ∙ some_in_both (checked_named layers (clause_shapes vias c)) (checked_named layers (flat_map (clause_shapes vias) rest))

  pub some_first : (cs rest : List PinClause) (c : PinClause) (all here : Bool) → cs ≡ c ∷ rest → some_in cs ≡ all → here ≡ is_some_shape (checked_named layers (clause_shapes vias c)) → here ≡ true → true ≡ all
  some_first cs rest c all here is h e t = ap (λ (b : Bool). b || some_in rest) (sym t ∙ e) ∙ sym (first_or_later c rest) ∙ ap some_in (sym is) ∙ h

  pub none_first : (cs rest : List PinClause) (c : PinClause) (all here : Bool) → cs ≡ c ∷ rest → some_in cs ≡ all → here ≡ is_some_shape (checked_named layers (clause_shapes vias c)) → here ≡ false → some_in rest ≡ all
  none_first cs rest c all here is h e t = ap (λ (b : Bool). b || some_in rest) (sym t ∙ e) ∙ sym (first_or_later c rest) ∙ ap some_in (sym is) ∙ h

  left_if : (b : Bool) (place : Option (Point × Orient)) (c : PinClause) (rest : List PinClause) → b ≡ false
      → checked_named layers (if b then shapes_left vias (place_ahead rest) rest else clause_if vias place c ++ shapes_left vias place rest) ≡ checked_named layers (clause_if vias place c) ++ checked_named layers (shapes_left vias place rest)
  left_if true place c rest h = absurd (cc)
  left_if false place c rest h = checked_both layers (clause_if vias place c) (shapes_left vias place rest)

  -- a clause that begins no port
  pub clause_left : (place : Option (Point × Orient)) (cs rest : List PinClause) (c : PinClause) (b : Bool) → cs ≡ c ∷ rest → b ≡ is_port c → b ≡ false
      → checked_named layers (shapes_left vias place cs) ≡ checked_named layers (clause_if vias place c) ++ checked_named layers (shapes_left vias place rest)
  clause_left place cs rest c b is e h = ap (λ ds. checked_named layers (shapes_left vias place ds)) is ∙ left_if (is_port c) place c rest (sym e ∙ h)

  -- no clause is left
  pub ports_put : (place : Option (Point × Orient)) (left all : List PinClause) (now old : List Net) → left ≡ []
      → with_shapes (checked_named layers (shapes_left vias place left)) now ≡ with_shapes (checked_named layers (shapes_left vias (place_ahead all) all)) old
      → now ≡ with_shapes (checked_named layers (flat_map (port_shapes vias) (ports [] all))) old
  ports_put place left all now old none h =
      sym (ap (λ ds. with_shapes (checked_named layers (shapes_left vias place ds)) now) none)
      ∙ h ∙ ap (λ ss. with_shapes (checked_named layers ss) old) (sym (all_ports vias all))
