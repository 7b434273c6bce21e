-- What the entries of a net draw is the same in designs that agree on these, and on what any net may be made of.
use Rattle.std.proofs.Common.{◌≡◌, ◌∙◌, ℕ, ℤ, Bool, true, false, List, [], ◌∷◌, ◌++◌, filter, flat_map, Option, Some, None, refl, sym, ap, ap₂, if◌then◌else◌}
use Rattle.std.specs.List.{cons_option, filter_map}
use Rattle.std.specs.Str.{bytes_eq}
use Rattle.std.proofs.Math.Path.{fun_ext}
use Rattle.form_meanings.specs.Firsts.{first_of}
use Rattle.form_meanings.specs.Words.{◌>>=◌}
use Rattle.def_grammar.specs.Nets as nets
use Rattle.def_grammar.specs.Nets.{is_net, rule_of_clause}
use Rattle.def_grammar.specs.NetWires.{net_wires}
use Rattle.def_grammar.specs.Numbers.{int_of}
use Rattle.def_grammar.specs.Parts.{Coordinates}
use Rattle.def_grammar.specs.Points.{place_of}
use Rattle.def_grammar.specs.Records as records
use Rattle.def_grammar.specs.Records.{Record, entry, entry_of}
use Rattle.def_grammar.specs.SpecialNets.{SpecialClause, SpecialNet, special_vias, via_points}
use Rattle.def_grammar.specs.SpecialWires.{special_net_wires}
use Rattle.def_grammar.specs.Wiring.{SpecialWire, Wire}
use Rattle.lef_grammar.specs.Library.{Library}
use Rattle.wire_rules.specs.Paths.{Piece, WireMakings, one_via}
use Rattle.wire_rules.specs.Sizes.{as_size}
use Rattle.wire_rules.specs.ViaShapes.{NamedShape}
use Rattle.entry_rules.specs.ViaLayers.{def_rules, def_vias, rule_of_entry, via_layers, via_of_entry}
use Rattle.entry_rules.specs.WireItems.{net_via, special_via}
use Rattle.net_rules.specs.ViaRectangles.{via_shapes}
use Rattle.net_rules.specs.Widths.{rule_of_wire, wire_width}
use Rattle.net_rules.specs.WirePieces.{net_pieces, net_wire_rules, path_pieces, special_wire_pieces, special_wire_rules, wire_pieces}
use Rattle.connection_rules.specs.NetParts.{Wired, all_wired, clause_pieces, is_named, wired_of, wired_special}
use Rattle.net_laws.specs.NetsTold.{is_common, is_of_net}
use Rattle.net_laws.proofs.Selecting.{selected_alike}

no_via : (r : Record) → is_common r ≡ false → (entry_of r >>= via_of_entry) ≡ None
no_via (entry (records.via v)) h = absurd (cc)
no_via _ h = refl

no_rule : (r : Record) → is_common r ≡ false → (entry_of r >>= rule_of_entry) ≡ None
no_rule (entry (records.rule r)) h = absurd (cc)
no_rule _ h = refl

module _ (library : Library) (design : List Record) (u : ℕ) (name : List ℕ) where
  abbrev wired_in : Record → Option Wired
  wired_in r = entry_of r >>= wired_of library design u

  -- an entry of this name, or another
  by_name : (b : Bool) (w : Wired) (r : Record) (left : List Wired) (rest : List Record) → wired_in r ≡ Some w → left ≡ filter_map wired_in rest
      → (if b then w ∷ left else left) ≡ filter_map wired_in (if b then r ∷ rest else rest)
  by_name true w r left rest is later = ap₂ (λ (x : Option Wired) (ws : List Wired). cons_option x ws) (sym is) later
  by_name false w r left rest is later = later

  -- the wired entries of a name are those of the statements that are entries of that net
  named_wired : (all : List Record) → filter (is_named library design u name) (filter_map wired_in all) ≡ filter_map wired_in (filter (is_of_net name) all)
  named_wired [] = refl
  named_wired (entry (records.net (is_net n)) ∷ all) = by_name (bytes_eq n.name name) _ (entry (records.net (is_net n))) _ (filter (is_of_net name) all) refl (named_wired all)
  named_wired (entry (records.special_net n) ∷ all) = by_name (bytes_eq n.name name) _ (entry (records.special_net n)) _ (filter (is_of_net name) all) refl (named_wired all)
  named_wired (_ ∷ all) = named_wired all

module _ (library : Library) (a b : List Record) (u : ℕ) (common : filter is_common a ≡ filter is_common b) where
  same_vias : def_vias a ≡ def_vias b
  same_vias = selected_alike is_common (λ (r : Record). entry_of r >>= via_of_entry) no_via a b common

  same_rules : def_rules a ≡ def_rules b
  same_rules = selected_alike is_common (λ (r : Record). entry_of r >>= rule_of_entry) no_rule a b common

  -- what wires are made by
  same_shapes : via_shapes library a u ≡ via_shapes library b u
  same_shapes = fun_ext (λ (name : List ℕ). rw (same_vias) refl)

  same_layers : via_layers library a ≡ via_layers library b
  same_layers = fun_ext (λ (name : List ℕ). rw (same_vias) refl)

  width_on : (rule : Option (List ℕ)) (layer : List ℕ) → wire_width library a u rule layer ≡ wire_width library b u rule layer
  width_on None layer = refl
  width_on (Some rule) layer = rw (same_rules) refl

  same_width : (rule : Option (List ℕ)) → wire_width library a u rule ≡ wire_width library b u rule
  same_width rule = fun_ext (width_on rule)

  same_net_rules : (rule : Option (List ℕ)) → net_wire_rules library a u rule ≡ net_wire_rules library b u rule
  same_net_rules rule = rw (same_width rule, same_layers, same_shapes) refl

  same_special_rules : (width : ℤ) → special_wire_rules library a u width ≡ special_wire_rules library b u width
  same_special_rules width = rw (same_layers, same_shapes) refl

  -- wires, and what stands by itself
  same_wire : (rule : Option (List ℕ)) (w : Wire) → wire_pieces library a u rule w ≡ wire_pieces library b u rule w
  same_wire rule w = ap (λ (rules : WireMakings). path_pieces net_via rules w.layer w.path) (same_net_rules (rule_of_wire rule w.taper))

  same_special_wire : (w : SpecialWire) → special_wire_pieces library a u w ≡ special_wire_pieces library b u w
  same_special_wire w = ap (λ (rules : WireMakings). path_pieces special_via rules w.layer w.path) (same_special_rules (as_size (int_of w.width)))

  same_clause : (c : SpecialClause) → clause_pieces library a u c ≡ clause_pieces library b u c
  same_clause (special_vias v) =
      ap (λ (shapes : List ℕ → List NamedShape). flat_map (λ (p : Coordinates). one_via (shapes v.via.name) (net_via v.via) (place_of p)) (via_points v)) same_shapes
  same_clause _ = refl

  same_net : (n : nets.Net) → net_pieces library a u n ≡ net_pieces library b u n
  same_net n = ap (λ (f : Wire → List Piece). flat_map f (net_wires n)) (fun_ext (same_wire (first_of rule_of_clause n.clauses)))

  same_special_net : (n : SpecialNet) → (wired_special library a u n).pieces ≡ (wired_special library b u n).pieces
  same_special_net n =
      ap₂ (λ (ps qs : List Piece). ps ++ qs)
      (ap (λ (f : SpecialWire → List Piece). flat_map f (special_net_wires n)) (fun_ext same_special_wire))
      (ap (λ (f : SpecialClause → List Piece). flat_map f n.clauses) (fun_ext same_clause))

  -- what an entry says of its net
  same_in : (name : List ℕ) (r : Record) → wired_in library a u name r ≡ wired_in library b u name r
  same_in name (entry (records.net (is_net n))) = rw (same_net n) refl
  same_in name (entry (records.special_net n)) = rw (same_special_net n) refl
  same_in name _ = refl

  same_in_all : (name : List ℕ) (all : List Record) → filter_map (wired_in library a u name) all ≡ filter_map (wired_in library b u name) all
  same_in_all name [] = refl
  same_in_all name (r ∷ all) = ap₂ (λ (w : Option Wired) (ws : List Wired). cons_option w ws) (same_in name r) (same_in_all name all)

  pub same_wired : (name : List ℕ) → filter (is_of_net name) a ≡ filter (is_of_net name) b
      → filter (is_named library a u name) (all_wired library a u) ≡ filter (is_named library b u name) (all_wired library b u)
  same_wired name entries =
      named_wired library a u name a
      ∙ ap (filter_map (wired_in library a u name)) entries
      ∙ same_in_all name (filter (is_of_net name) b)
      ∙ sym (named_wired library b u name b)
