-- The ports of a pin of the design, clause by clause.
use Rattle.std.proofs.Common.{◌≡◌, ℕ, Bool, true, false, List, [], ◌∷◌, ◌++◌, flat_map, map, refl, sym, ap, ◌∙◌, append_assoc, Option, Some, None, if◌then◌else◌}
use Rattle.std.specs.List.{cons_option, filter_map}
use Rattle.std.specs.Option.{option_or}
use Rattle.std.proofs.lemmas.List.{append-nil, map-append}
use Rattle.std.proofs.lemmas.Grind.{flat_map-append}
use Rattle.design_model.specs.declared.geometry.Orient.{Orient}
use Rattle.design_model.specs.declared.geometry.Point.{Point}
use Rattle.form_meanings.specs.Firsts.{first_of}
use Rattle.form_meanings.specs.Words.{first}
use Rattle.def_grammar.specs.Pins.{PinClause, pin_has_polygon, pin_has_rectangle, pin_has_via, pin_kept, pin_net, pin_placed, pin_port}
use Rattle.wire_rules.specs.ViaShapes.{NamedShape}
use Rattle.connection_rules.specs.PinShapes.{clause_shapes, placing_of_clause, port_shapes, ports, shapes_if, turned_shape}
use Rattle.net_pins.specs.PortsLeft.{clause_if, is_port, place_ahead, shapes_left}

ports_step : (port : List PinClause) (c : PinClause) (cs : List PinClause) → ports port (c ∷ cs) ≡ (if is_port c then port ∷ ports [] cs else ports (port ++ c ∷ []) cs)
unfolding ports
ports_step port (pin_placed s at o) cs = refl
ports_step port (pin_net n) cs = refl
ports_step port pin_port cs = refl
ports_step port (pin_has_rectangle r) cs = refl
ports_step port (pin_has_via v) cs = refl
ports_step port (pin_has_polygon l rest) cs = refl
ports_step port (pin_kept k) cs = refl

or_none : {A : Type 0} (o : Option A) → option_or o None ≡ o
or_none None = refl
or_none (Some a) = refl

or_or : {A : Type 0} (a b c : Option A) → option_or (option_or a b) c ≡ option_or a (option_or b c)
or_or None b c = refl
or_or (Some a) b c = refl

first_cons : {B : Type 0} (o : Option B) (later : List B) → first (cons_option o later) ≡ option_or o (first later)
first_cons None later = refl
first_cons (Some a) later = refl

first_append : {A B : Type 0} (f : A → Option B) (xs : List A) (c : A) → first_of f (xs ++ c ∷ []) ≡ option_or (first_of f xs) (f c)
first_append f [] c = first_cons (f c) [] ∙ or_none (f c)
first_append f (x ∷ xs) c =
    first_cons (f x) (filter_map f (xs ++ c ∷ []))
    ∙ ap (λ (o : Option _). option_or (f x) o) (first_append f xs c)
    ∙ sym (or_or (f x) (first_of f xs) (f c))
    ∙ ap (λ (o : Option _). option_or o (f c)) (sym (first_cons (f x) (filter_map f xs)))

module _ (vias : List ℕ → List NamedShape) where
  none_in_none : (place : Option (Point × Orient)) → shapes_if vias [] place ≡ []
  none_in_none None = refl
  none_in_none (Some p) = refl

  one_more_clause : (port : List PinClause) (c : PinClause) (place : Option (Point × Orient)) → shapes_if vias (port ++ c ∷ []) place ≡ shapes_if vias port place ++ clause_if vias place c
  one_more_clause port c None = refl
  one_more_clause port c (Some p) =
      ap (map (turned_shape p)) (flat_map-append (clause_shapes vias) port (c ∷ []) ∙ ap (λ ys. flat_map (clause_shapes vias) port ++ ys) (append-nil (clause_shapes vias c)))
      ∙ map-append (turned_shape p) (flat_map (clause_shapes vias) port) (clause_shapes vias c)

  -- the place of a port of which these clauses stand before, and these behind
  abbrev place_with : List PinClause → List PinClause → Option (Point × Orient)
  place_with port cs = option_or (first_of placing_of_clause port) (place_ahead cs)

  -- the ports of clauses, where those of the first port that stand before are known
  abbrev Walks : List PinClause → List PinClause → Type 0
  Walks cs port = flat_map (port_shapes vias) (ports port cs) ≡ shapes_if vias port (place_with port cs) ++ shapes_left vias (place_with port cs) cs

  -- the place ahead of a clause that is a PORT or isn't
  abbrev ahead : Bool → PinClause → List PinClause → Option (Point × Orient)
  ahead b c cs = if b then None else option_or (placing_of_clause c) (place_ahead cs)

  one_walked : (c : PinClause) (cs port : List PinClause) (b : Bool) → Walks cs [] → Walks cs (port ++ c ∷ [])
      → flat_map (port_shapes vias) (if b then port ∷ ports [] cs else ports (port ++ c ∷ []) cs)
      ≡ shapes_if vias port (option_or (first_of placing_of_clause port) (ahead b c cs))
      ++ (if b then shapes_left vias (place_ahead cs) cs
      else clause_if vias (option_or (first_of placing_of_clause port) (ahead b c cs)) c ++ shapes_left vias (option_or (first_of placing_of_clause port) (ahead b c cs)) cs)
  one_walked c cs port true next same =
      ap (λ ys. port_shapes vias port ++ ys) (next ∙ ap (λ xs. xs ++ shapes_left vias (place_ahead cs) cs) (none_in_none (place_ahead cs)))
      ∙ ap (λ (o : Option (Point × Orient)). shapes_if vias port o ++ shapes_left vias (place_ahead cs) cs) (sym (or_none (first_of placing_of_clause port)))
  one_walked c cs port false next same =
      let here = option_or (first_of placing_of_clause port) (option_or (placing_of_clause c) (place_ahead cs)) in
      let is_here : place_with (port ++ c ∷ []) cs ≡ here =
      ap (λ (o : Option (Point × Orient)). option_or o (place_ahead cs)) (first_append placing_of_clause port c) ∙ or_or (first_of placing_of_clause port) (placing_of_clause c) (place_ahead cs) in
      same
      ∙ ap (λ (o : Option (Point × Orient)). shapes_if vias (port ++ c ∷ []) o ++ shapes_left vias o cs) is_here
      ∙ ap (λ xs. xs ++ shapes_left vias here cs) (one_more_clause port c here)
      ∙ append_assoc (shapes_if vias port here) (clause_if vias here c) (shapes_left vias here cs)

  walked : (cs port : List PinClause) → Walks cs port
  unfolding ports
  walked [] port = ap (λ (o : Option (Point × Orient)). shapes_if vias port o ++ []) (sym (or_none (first_of placing_of_clause port)))
  walked (c ∷ cs) port = ap (flat_map (port_shapes vias)) (ports_step port c cs) ∙ one_walked c cs port (is_port c) (walked cs []) (walked cs (port ++ c ∷ []))

  -- all ports of a pin, from its first clause on
  pub all_ports : (cs : List PinClause) → flat_map (port_shapes vias) (ports [] cs) ≡ shapes_left vias (place_ahead cs) cs
  all_ports cs = walked cs [] ∙ ap (λ xs. xs ++ shapes_left vias (place_ahead cs) cs) (none_in_none (place_ahead cs))
