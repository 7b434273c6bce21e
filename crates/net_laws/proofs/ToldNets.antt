-- A net is the same in two designs that agree on what tells it.
use Rattle.std.proofs.Common.{◌≡◌, ◌∙◌, ℕ, Bool, true, false, List, [], ◌∷◌, ◌++◌, filter, map, Option, Some, None, refl, sym, ap, ap₂, if◌then◌else◌}
use Rattle.std.specs.Prelude.{flat_map, ℤ, pos}
use Rattle.std.specs.List.{AllByRecursion, cons_option, filter_map}
use Rattle.std.specs.Option.{option_map, option_to_list}
use Rattle.std.specs.Str.{bytes_eq}
use Rattle.form_meanings.specs.Firsts.{find_named, first_of}
use Rattle.form_meanings.specs.Words.{◌>>=◌}
use Rattle.def_grammar.specs.DefVias.{DefVia}
use Rattle.def_grammar.specs.Nets as nets
use Rattle.def_grammar.specs.Nets.{is_net, must_join, rule_of_clause}
use Rattle.def_grammar.specs.NetWires.{net_wires}
use Rattle.def_grammar.specs.Numbers.{int_of}
use Rattle.def_grammar.specs.Parts.{Coordinates}
use Rattle.def_grammar.specs.Pins.{Pin}
use Rattle.def_grammar.specs.Points.{place_of}
use Rattle.def_grammar.specs.Records as records
use Rattle.def_grammar.specs.Records.{Entry, Record, end_section, entry, entry_of, in_properties, top}
use Rattle.def_grammar.specs.Rules.{Rule}
use Rattle.def_grammar.specs.SpecialNets as special
use Rattle.def_grammar.specs.SpecialNets.{PlacedVia, SpecialClause, special_rectangle, special_vias, via_points}
use Rattle.def_grammar.specs.SpecialWires.{special_net_wires}
use Rattle.def_grammar.specs.Terminals.{Terminal, is_of_all, is_of_design, is_virtual}
use Rattle.def_grammar.specs.Wiring.{SpecialWire, Wire}
use Rattle.lef_grammar.specs.Definitions as lef
use Rattle.lef_grammar.specs.Library.{Library, rule_named, via_named}
use Rattle.wire_rules.specs.Paths.{Piece, WireMakings, one_via, rectangle}
use Rattle.wire_rules.specs.Sizes.{as_size}
use Rattle.wire_rules.specs.ViaShapes.{NamedShape, half}
use Rattle.entry_rules.specs.ViaLayers.{body_layers, def_rules, def_via_layers, def_vias, or_lef, routing_layers, rule_of_entry, via_of_entry}
use Rattle.entry_rules.specs.WireItems.{net_via, special_via}
use Rattle.net_rules.specs.ViaRectangles.{body_shapes, box_of, def_via_shapes, or_else, via_shapes}
use Rattle.net_rules.specs.Widths.{layer_width, or_width, rule_of_wire, width_by_either}
use Rattle.net_rules.specs.WirePieces.{net_wire_rules, path_pieces, special_wire_rules}
use Rattle.connection_rules.specs.NetParts.{Wired, all_wired, is_named, is_power_use, net_named, use_of_clause, use_of_special, wired_of}
use Rattle.connection_rules.specs.PinShapes.{checked_named, clause_shapes, port_shapes, ports_of}
use Rattle.connection_rules.specs.Terminals.{NetPin, PinsByName, design_pin, design_pins, is_some_shape, names_net, pin_of_component, pins_by_name, pins_of}
use Rattle.net_laws.specs.NetsTold.{AgreeOnNet, FindsAlike, NetsAreTold, is_common, is_of_net, terminals_in, terminals_of}
use Rattle.net_laws.proofs.NetPins.{FindsPin, same_naming_pins, same_terminals, terminals_find}
use Rattle.net_laws.proofs.Selecting.{selected_alike}

no_via : (r : Record) → is_common r ≡ false → (entry_of r >>= via_of_entry) ≡ None
no_via (top t) h = refl
no_via (entry (records.component x)) h = refl
no_via (entry (records.pin x)) h = refl
no_via (entry (records.region x)) h = refl
no_via (entry (records.group x)) h = refl
no_via (entry (records.blockage x)) h = refl
no_via (entry (records.net x)) h = refl
no_via (entry (records.special_net x)) h = refl
no_via (entry (records.via x)) h = absurd (cc)
no_via (entry (records.rule x)) h = refl
no_via (entry (records.skipped s x)) h = refl
no_via (in_properties p) h = refl
no_via (end_section s) h = refl

no_rule : (r : Record) → is_common r ≡ false → (entry_of r >>= rule_of_entry) ≡ None
no_rule (top t) h = refl
no_rule (entry (records.component x)) h = refl
no_rule (entry (records.pin x)) h = refl
no_rule (entry (records.region x)) h = refl
no_rule (entry (records.group x)) h = refl
no_rule (entry (records.blockage x)) h = refl
no_rule (entry (records.net x)) h = refl
no_rule (entry (records.special_net x)) h = refl
no_rule (entry (records.via x)) h = refl
no_rule (entry (records.rule x)) h = absurd (cc)
no_rule (entry (records.skipped s x)) h = refl
no_rule (in_properties p) h = refl
no_rule (end_section s) h = refl

module _ (library : Library) (design : List Record) (u : ℕ) where
  abbrev wired_in : Record → Option Wired
  wired_in r = entry_of r >>= wired_of library design u

  -- an entry of this name, or another
  by_name : (b : Bool) (name : List ℕ) (w : Wired) (r : Record) (left : List Wired) (rest : List Record) → bytes_eq w.name name ≡ b → wired_in r ≡ Some w → left ≡ filter_map wired_in rest
      → (if b then w ∷ left else left) ≡ filter_map wired_in (if b then r ∷ rest else rest)
  by_name true name w r left rest same is later = ap₂ (λ (x : Option Wired) (ws : List Wired). cons_option x ws) (sym is) later
  by_name false name w r left rest same is later = later

  -- the wired entries of a name are those of the statements that are entries of that net
  pub named_wired : (name : List ℕ) (all : List Record) → filter (is_named library design u name) (filter_map wired_in all) ≡ filter_map wired_in (filter (is_of_net name) all)
  named_wired name [] = refl
  named_wired name (top t ∷ all) = named_wired name all
  named_wired name (in_properties p ∷ all) = named_wired name all
  named_wired name (end_section s ∷ all) = named_wired name all
  named_wired name (entry (records.component x) ∷ all) = named_wired name all
  named_wired name (entry (records.pin x) ∷ all) = named_wired name all
  named_wired name (entry (records.region x) ∷ all) = named_wired name all
  named_wired name (entry (records.group x) ∷ all) = named_wired name all
  named_wired name (entry (records.blockage x) ∷ all) = named_wired name all
  named_wired name (entry (records.net (must_join x)) ∷ all) = named_wired name all
  named_wired name (entry (records.net (is_net n)) ∷ all) =
      by_name (bytes_eq n.name name) name _ (entry (records.net (is_net n))) _ (filter (is_of_net name) all) refl refl (named_wired name all)
  named_wired name (entry (records.special_net n) ∷ all) =
      by_name (bytes_eq n.name name) name _ (entry (records.special_net n)) _ (filter (is_of_net name) all) refl refl (named_wired name all)
  named_wired name (entry (records.via x) ∷ all) = named_wired name all
  named_wired name (entry (records.rule x) ∷ all) = named_wired name all
  named_wired name (entry (records.skipped s x) ∷ all) = named_wired name all

  -- and so are their terminals
  pub wired_terminals : (all : List Record) → flat_map (λ (w : Wired). w.terminals) (filter_map wired_in all) ≡ flat_map terminals_of all
  wired_terminals [] = refl
  wired_terminals (top t ∷ all) = wired_terminals all
  wired_terminals (in_properties p ∷ all) = wired_terminals all
  wired_terminals (end_section s ∷ all) = wired_terminals all
  wired_terminals (entry (records.component x) ∷ all) = wired_terminals all
  wired_terminals (entry (records.pin x) ∷ all) = wired_terminals all
  wired_terminals (entry (records.region x) ∷ all) = wired_terminals all
  wired_terminals (entry (records.group x) ∷ all) = wired_terminals all
  wired_terminals (entry (records.blockage x) ∷ all) = wired_terminals all
  wired_terminals (entry (records.net (must_join x)) ∷ all) = wired_terminals all
  wired_terminals (entry (records.net (is_net n)) ∷ all) = ap (λ (ts : List Terminal). n.terminals ++ ts) (wired_terminals all)
  wired_terminals (entry (records.special_net n) ∷ all) = ap (λ (ts : List Terminal). n.terminals ++ ts) (wired_terminals all)
  wired_terminals (entry (records.via x) ∷ all) = wired_terminals all
  wired_terminals (entry (records.rule x) ∷ all) = wired_terminals all
  wired_terminals (entry (records.skipped s x) ∷ all) = wired_terminals all

-- what wires and pins are made by, from the vias and the rules of a design
module _ (library : Library) (u : ℕ) (vias : List DefVia) where
  abbrev shapes_by : List ℕ → List NamedShape
  shapes_by name =
      or_else [] (or_lef (option_map def_via_shapes (find_named (λ (v : DefVia). v.name) vias name)) (option_map (λ (v : lef.Via). body_shapes u v.body) (via_named library name)))

  abbrev layers_by : List ℕ → Option (List (List ℕ))
  layers_by name =
      option_map (routing_layers library)
      (or_lef (option_map def_via_layers (find_named (λ (v : DefVia). v.name) vias name)) (option_map (λ (v : lef.Via). body_layers v.body) (via_named library name)))

  abbrev special_rules_by : ℤ → WireMakings
  special_rules_by width = record { width = λ layer. width; past_end = λ w. pos 0; via_layers = layers_by; via_shapes = shapes_by }

  module _ (rules : List Rule) where
    abbrev width_by : Option (List ℕ) → List ℕ → ℤ
    width_by rule layer =
        as_size (or_width (layer_width library u layer) (rule >>= (λ (name : List ℕ). width_by_either u layer (find_named (λ (r : Rule). r.name) rules name) (rule_named library name))))

    abbrev net_rules_by : Option (List ℕ) → WireMakings
    net_rules_by rule = record { width = width_by rule; past_end = half; via_layers = layers_by; via_shapes = shapes_by }

abbrev net_by : (Option (List ℕ) → WireMakings) → nets.Net → Wired
net_by rules n = record {
  name = n.name;
  is_power = is_power_use (first_of use_of_clause n.clauses);
  terminals = n.terminals;
  pieces = flat_map (λ (w : Wire). path_pieces net_via (rules (rule_of_wire (first_of rule_of_clause n.clauses) w.taper)) w.layer w.path) (net_wires n);
}

abbrev vias_by : (List ℕ → List NamedShape) → PlacedVia → List Piece
vias_by shapes v = flat_map (λ (p : Coordinates). one_via (shapes v.via.name) (net_via v.via) (place_of p)) (via_points v)

abbrev clause_by : (List ℕ → List NamedShape) → SpecialClause → List Piece
clause_by shapes (special_rectangle layer corners) = rectangle (record { layer = layer; box = box_of corners }) ∷ []
clause_by shapes (special_vias v) = vias_by shapes v
clause_by shapes _ = []

abbrev special_by : (ℤ → WireMakings) → (List ℕ → List NamedShape) → special.SpecialNet → Wired
special_by rules shapes n = record {
  name = n.name;
  is_power = is_power_use (first_of use_of_special n.clauses);
  terminals = n.terminals;
  pieces = flat_map (λ (w : SpecialWire). path_pieces special_via (rules (as_size (int_of w.width))) w.layer w.path) (special_net_wires n) ++ flat_map (clause_by shapes) n.clauses;
}

abbrev pin_by : Library → (List ℕ → List NamedShape) → Pin → NetPin
pin_by library shapes p = record {
  words = p.name ∷ [];
  counts = is_some_shape (checked_named library.layers (flat_map (clause_shapes shapes) p.clauses));
  shapes = checked_named library.layers (flat_map (port_shapes shapes) (ports_of p));
}

-- what a terminal stands for, by its kind
pub by_kind : (v a d : Bool) (x x' y y' z z' : List NetPin) → (a ≡ true → x ≡ x') → (d ≡ true → y ≡ y') → z ≡ z'
    → (if v then [] else (if a then x else (if d then y else z))) ≡ (if v then [] else (if a then x' else (if d then y' else z')))
by_kind true a d x x' y y' z z' f g h = refl
by_kind false true d x x' y y' z z' f g h = f refl
by_kind false false true x x' y y' z z' f g h = g refl
by_kind false false false x x' y y' z z' f g h = h

-- two designs agree on what any net may be made of
module _ (library : Library) (a b : List Record) (u : ℕ) (common : filter is_common a ≡ filter is_common b) where
  same_vias : def_vias a ≡ def_vias b
  same_vias = selected_alike is_common (λ (r : Record). entry_of r >>= via_of_entry) no_via a b common

  same_rules : def_rules a ≡ def_rules b
  same_rules = selected_alike is_common (λ (r : Record). entry_of r >>= rule_of_entry) no_rule a b common

  same_shapes : via_shapes library a u ≡ via_shapes library b u
  same_shapes = ap (λ (vias : List DefVia). shapes_by library u vias) same_vias

  same_net_rules : net_wire_rules library a u ≡ net_wire_rules library b u
  same_net_rules = ap₂ (λ (vias : List DefVia) (rules : List Rule). net_rules_by library u vias rules) same_vias same_rules

  same_special_rules : special_wire_rules library a u ≡ special_wire_rules library b u
  same_special_rules = ap (λ (vias : List DefVia). special_rules_by library u vias) same_vias

  same_pin : design_pin library a u ≡ design_pin library b u
  same_pin = ap (λ (shapes : List ℕ → List NamedShape). pin_by library shapes) same_shapes

  same_wired : (e : Entry) → wired_of library a u e ≡ wired_of library b u e
  same_wired (records.component x) = refl
  same_wired (records.pin x) = refl
  same_wired (records.region x) = refl
  same_wired (records.group x) = refl
  same_wired (records.blockage x) = refl
  same_wired (records.net (must_join x)) = refl
  same_wired (records.net (is_net n)) = ap (λ (rules : Option (List ℕ) → WireMakings). Some (net_by rules n)) same_net_rules
  same_wired (records.special_net n) = ap₂ (λ (rules : ℤ → WireMakings) (shapes : List ℕ → List NamedShape). Some (special_by rules shapes n)) same_special_rules same_shapes
  same_wired (records.via x) = refl
  same_wired (records.rule x) = refl
  same_wired (records.skipped s x) = refl

  same_in : (r : Record) → wired_in library a u r ≡ wired_in library b u r
  same_in (entry e) = same_wired e
  same_in (top t) = refl
  same_in (in_properties p) = refl
  same_in (end_section s) = refl

  pub all_wired_same : (all : List Record) → filter_map (wired_in library a u) all ≡ filter_map (wired_in library b u) all
  all_wired_same [] = refl
  all_wired_same (r ∷ all) = ap₂ (λ (w : Option Wired) (ws : List Wired). cons_option w ws) (same_in r) (all_wired_same all)

  -- a terminal of the design, where it finds the same pin
  pub same_design : (t : Terminal) → FindsPin library u a b t → is_of_design t ≡ true → (pins_by_name library a u).of_design t.pin ≡ (pins_by_name library b u).of_design t.pin
  same_design t found is = ap₂ (λ (f : Pin → NetPin) (p : Option Pin). option_to_list (option_map f p)) same_pin (found is)

  -- the pins that name a net, where they are the same
  pub same_naming : (net : List ℕ) → filter (names_net library a u net) (design_pins library a u) ≡ filter (names_net library b u net) (design_pins library b u)
      → (pins_by_name library a u).naming net ≡ (pins_by_name library b u).naming net
  same_naming net pins = ap₂ (λ (f : Pin → NetPin) (ps : List Pin). map f ps) same_pin pins

  -- entries of one name
  pub named_wired_same : (name : List ℕ) → filter (is_of_net name) a ≡ filter (is_of_net name) b
      → filter (is_named library a u name) (all_wired library a u) ≡ filter (is_named library b u name) (all_wired library b u)
  named_wired_same name entries =
      named_wired library a u name a
      ∙ ap (filter_map (wired_in library a u)) entries
      ∙ all_wired_same (filter (is_of_net name) b)
      ∙ sym (named_wired library b u name b)

-- the terminals of a net's entries
pub terminals_are : (library : Library) (a : List Record) (u : ℕ) (name : List ℕ) → flat_map (λ (w : Wired). w.terminals) (filter (is_named library a u name) (all_wired library a u)) ≡ terminals_in a name
terminals_are library a u name = ap (flat_map (λ (w : Wired). w.terminals)) (named_wired library a u name a) ∙ wired_terminals library a u (filter (is_of_net name) a)

-- and on the rest that tells a net
module _ (library : Library) (a b : List Record) (u : ℕ) (name : List ℕ) (agree : AgreeOnNet a b name) where
  abbrev pins_a : PinsByName
  pins_a = pins_by_name library a u

  abbrev pins_b : PinsByName
  pins_b = pins_by_name library b u

  same_terminal : (t : Terminal) → FindsAlike a b t → FindsPin library u a b t → pins_of pins_a t ≡ pins_of pins_b t
  same_terminal t found pin =
      by_kind (is_virtual t) (is_of_all t) (is_of_design t) (pins_a.of_all t.pin) (pins_b.of_all t.pin) (pins_a.of_design t.pin) (pins_b.of_design t.pin)
      (pins_a.of_component t.owner t.pin)
      (pins_b.of_component t.owner t.pin)
      (λ star. ap (filter_map (pin_of_component library u t.pin)) (found.all star))
      (same_design library a b u agree.common t pin)
      (ap (λ c. option_to_list (c >>= pin_of_component library u t.pin)) found.named)

  same_pins_of : (ts : List Terminal) → AllByRecursion (FindsAlike a b) ts → AllByRecursion (FindsPin library u a b) ts → flat_map (pins_of pins_a) ts ≡ flat_map (pins_of pins_b) ts
  same_pins_of [] found pins = refl
  same_pins_of (t ∷ ts) found pins = ap₂ (λ (ps qs : List NetPin). ps ++ qs) (same_terminal t found.0 pins.0) (same_pins_of ts found.1 pins.1)

  listed_alike : terminals_in a name ≡ terminals_in b name
  listed_alike = same_terminals a b name agree.entries

  abbrev wired : List Record → List Wired
  wired all = filter (is_named library all u name) (all_wired library all u)

  same_entries : wired a ≡ wired b
  same_entries = named_wired_same library a b u agree.common name agree.entries

  abbrev listed : List Wired → List Terminal
  listed ws = flat_map (λ (w : Wired). w.terminals) ws

  listed_are : listed (wired a) ≡ terminals_in a name
  listed_are = terminals_are library a u name

  same_listed : flat_map (pins_of pins_a) (listed (wired a)) ≡ flat_map (pins_of pins_b) (listed (wired b))
  same_listed =
      ap (flat_map (pins_of pins_a)) listed_are
      ∙ same_pins_of (terminals_in a name) agree.components (terminals_find library u a b name listed_alike agree.pins)
      ∙ ap (flat_map (pins_of pins_b)) (sym listed_are ∙ ap listed same_entries)

  pub same_net : net_named library a u name ≡ net_named library b u name
  same_net = rw (same_listed, same_naming library a b u agree.common name (same_naming_pins library u a b name listed_alike agree.pins), same_entries) refl

pub nets_are_told : NetsAreTold
nets_are_told library a b u name agree = same_net library a b u name agree
