-- What the entries of a design draw is at most 2 ^ 32 long for each point of their wires, so that in a text that reads it fits
-- 64 bits.
use Rattle.std.proofs.Common.{◌≡◌, ◌≤◌, ℕ, ◌+◌, ◌*◌, List, [], ◌∷◌, flat_map, Option, Some, None, refl, arith, sum_by}
use Rattle.std.specs.List.{cons_option, filter_map}
use Rattle.std.proofs.lemmas.List.Sums.{sum_by-cons, sum_by-append}
use Rattle.design_model.specs.declared.mode.Mode.TheVariants.{Top}
use Rattle.form_meanings.specs.Firsts.{first_of}
use Rattle.form_meanings.specs.Words.{◌>>=◌}
use Rattle.def_grammar.specs.Nets as nets
use Rattle.def_grammar.specs.Nets.{rule_of_clause, must_join, is_net}
use Rattle.def_grammar.specs.NetWires.{wires_of, net_wires}
use Rattle.def_grammar.specs.Points.{place_of}
use Rattle.def_grammar.specs.Records.{Entry, net, special_net, Record, entry, entry_of, def}
use Rattle.def_grammar.specs.SpecialNets.{SpecialClause, special_rectangle, special_vias, SpecialNet, via_points}
use Rattle.def_grammar.specs.SpecialWires.{special_wires_of, special_net_wires}
use Rattle.def_grammar.specs.Wiring.{Wire, SpecialWire}
use Rattle.lef_grammar.specs.Library.{Library}
use Rattle.wire_rules.specs.Paths.{Piece, one_via}
use Rattle.entry_rules.specs.WireItems.{net_via}
use Rattle.entry_rules.specs.WireItems as items
use Rattle.net_rules.specs.ViaRectangles.{via_shapes}
use Rattle.net_rules.specs.Widths.{rule_of_wire}
use Rattle.wire_rules.specs.Sizes.{as_size}
use Rattle.def_grammar.specs.Numbers.{int_of}
use Rattle.net_rules.specs.WirePieces.{net_wire_rules, wire_pieces, net_pieces, special_wire_rules, special_wire_pieces, special_net_pieces}
use Rattle.connection_rules.specs.NetParts.{Wired, clause_pieces, wired_special, wired_of}
use Rattle.measure_rules.specs.Lengths.{wired_length, piece_length, total_length}
use Rattle.statement_laws.specs.FormLaws.{FormsAreSpelled}
use Rattle.measure_laws.specs.LengthLaws.{LengthsFit}
use Rattle.measure_laws.proofs.NameSums.{total_is_of_all_entries}
use Rattle.measure_laws.proofs.PathLengths.{lengths, no_lengths, via_none, path_within}
use Rattle.measure_laws.proofs.Points.{wire_points, special_points, net_points, special_net_points, entry_points, record_points}
use Rattle.measure_laws.proofs.SpelledPoints.{record_few}
use Rattle.measure_laws.proofs.Sums.{sum_by-flat_map}
use Rattle.measure_laws.proofs.TokenCounts.{text_is_light}

-- pieces that are at most so long for each of some points
each_within : {A : Type 0} (f : A → List Piece) (n : A → ℕ) → ((a : A) → lengths (f a) ≤ 4294967296 * n a) → (xs : List A) → lengths (flat_map f xs) ≤ 4294967296 * sum_by n xs
each_within f n each [] = omega arith
each_within f n each (x ∷ xs) =
    let here = each x in
    let later = each_within f n each xs in
    omega (arith, here, later, sum_by-append piece_length (f x) (flat_map f xs), sum_by-cons n x xs)

-- what an entry says of its net, where it says something
abbrev length_if : Option Wired → ℕ
length_if None = 0
length_if (Some w) = wired_length w

module _ (h : Record → Option Wired) (each : (r : Record) → length_if (h r) ≤ 4294967296 * record_points r) where
  one_within : (o : Option Wired) (ws : List Wired) → sum_by wired_length (cons_option o ws) ≡ length_if o + sum_by wired_length ws
  one_within None ws = omega arith
  one_within (Some w) ws = sum_by-cons wired_length w ws

  entries_within : (rs : List Record) → sum_by wired_length (filter_map h rs) ≤ 4294967296 * sum_by record_points rs
  entries_within [] = omega arith
  entries_within (r ∷ rs) =
      let here = each r in
      let later = entries_within rs in
      omega (arith, here, later, one_within (h r) (filter_map h rs), sum_by-cons record_points r rs)

module _ (library : Library) (design : List Record) (u : ℕ) where
  net_within : (n : nets.Net) → lengths (net_pieces library design u n) ≤ 4294967296 * net_points (is_net n)
  net_within n =
      let rule_named = first_of rule_of_clause n.clauses in
      let each = λ (w : Wire). path_within (net_wire_rules library design u (rule_of_wire rule_named w.taper)) net_via w.layer w.path in
      let all = each_within (wire_pieces library design u rule_named) wire_points each (net_wires n) in
      let same = sum_by-flat_map wire_points wires_of n.clauses in
      omega (arith, all, same)

  wires_within : (n : SpecialNet) → lengths (special_net_pieces library design u n) ≤ 4294967296 * special_net_points n
  wires_within n =
      let each = λ (w : SpecialWire). path_within (special_wire_rules library design u (as_size (int_of w.width))) items.special_via w.layer w.path in
      let all = each_within (special_wire_pieces library design u) special_points each (special_net_wires n) in
      let same = sum_by-flat_map special_points special_wires_of n.clauses in
      omega (arith, all, same)

  -- a rectangle and vias by themselves
  clause_none : (c : SpecialClause) → lengths (clause_pieces library design u c) ≡ 0
  clause_none (special_rectangle layer corners) = refl
  clause_none (special_vias v) = no_lengths (λ p. one_via (via_shapes library design u v.via.name) (net_via v.via) (place_of p)) (λ p. via_none (via_shapes library design u v.via.name) (net_via v.via) (place_of p)) (via_points v)
  clause_none _ = refl

  special_within : (n : SpecialNet) → wired_length (wired_special library design u n) ≤ 4294967296 * special_net_points n
  special_within n =
      let wires = wires_within n in
      let others = no_lengths (clause_pieces library design u) clause_none n.clauses in
      omega (arith, wires, others, sum_by-append piece_length (special_net_pieces library design u n) (flat_map (clause_pieces library design u) n.clauses))

  entry_within : (e : Entry) → length_if (wired_of library design u e) ≤ 4294967296 * entry_points e
  entry_within (net (is_net n)) = net_within n
  entry_within (special_net n) = special_within n
  entry_within _ = omega arith

  record_within : (r : Record) → length_if (entry_of r >>= wired_of library design u) ≤ 4294967296 * record_points r
  record_within (entry e) = entry_within e
  record_within _ = omega arith

  design_within : total_length library design u ≤ 4294967296 * sum_by record_points design
  design_within =
      let all = entries_within (λ r. entry_of r >>= wired_of library design u) record_within design in
      let same = total_is_of_all_entries library design u in
      omega (arith, all, same)

pub lengths_fit : FormsAreSpelled def → LengthsFit
lengths_fit spelled library text design e u =
    let few : sum_by record_points design ≤ 1073741824 = text_is_light def spelled record_points record_few Top text design e in
    let within = design_within library design u in
    omega (arith, few, within)
