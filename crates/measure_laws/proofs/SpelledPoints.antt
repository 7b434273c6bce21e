-- A record is spelled with a word for each point of its wires.
use Rattle.std.proofs.Common.{◌≤◌, ℕ, List, [], ◌∷◌, length, codes, arith, sum_by}
use Rattle.std.proofs.lemmas.List.{length-append}
use Rattle.std.proofs.lemmas.List.Sums.{sum_by-cons}
use Rattle.design_model.specs.declared.mode.Mode.{Mode}
use Rattle.design_model.specs.declared.mode.Mode.TheVariants.{In}
use Rattle.design_model.specs.declared.mode.Section.{Section}
use Rattle.design_model.specs.declared.mode.Section.TheVariants.{Nets, SpecialNets}
use Rattle.form_meanings.specs.Words.{is_plus}
use Rattle.statement_model.specs.Form.{Form, Fits, empty, many, number, on, opt_on, spell}
use Rattle.def_grammar.specs.Limits.{is_size}
use Rattle.def_grammar.specs.Parts.{name, int}
use Rattle.def_grammar.specs.Points.{is_open}
use Rattle.def_grammar.specs.Terminals.{terminal}
use Rattle.def_grammar.specs.Clauses.{as_list, mask}
use Rattle.def_grammar.specs.Nets.{NetClause, net_subnet, net_use, net_rule, net_wiring, net_kept, net_listed, net_clause, as_net, NetEntry, must_join, is_net, net_form}
use Rattle.def_grammar.specs.Nets as nets
use Rattle.def_grammar.specs.Records.{Entry, component, pin, region, group, blockage, net, special_net, via, rule, skipped, Record, top, in_properties, end_section, entry, entries_form, statement}
use Rattle.def_grammar.specs.SpecialNets.{SpecialClause, special_subnet, special_use, special_shape_word, special_mask, special_rectangle, special_vias, special_polygon, special_has_wiring, special_kept, special_shape, special_listed, special_clause, as_special_net, special_net_form}
use Rattle.def_grammar.specs.Wiring as wiring
use Rattle.def_grammar.specs.Wiring.{PathItem, path_mask, path_virtual, path_rectangle, path_point, path_via, as_wire_point, wire_point, wire_start, wiring_status, taper, wire_mark, path_item, net_item, special_item, as_path, net_path, special_path, as_wire, wire, as_special_wire, SpecialWire, special_wire, new_wire, new_special_wire, as_wiring, as_special_wiring, special_wires, special_wiring}
use Rattle.measure_laws.proofs.Points.{item_points, path_points, wire_points, special_points, clause_points, special_clause_points, net_points, special_net_points, entry_points, record_points}
use Rattle.measure_laws.proofs.SpelledParts.{Counts, later_counts, behind_counts, before_counts, seq_counts, many_counts, opt_counts, seen_counts}

point_counts : Counts wire_point.of (λ p. 1)
unfolding wire_point
point_counts = record { few = λ p. omega arith }

module _ {Via : Type 0} (via : Form Via) where
  item_few : (i : PathItem Via) → item_points i ≤ length ((path_item via).of.spell i)
  item_few (path_point at) = point_counts.few at
  item_few _ = omega arith

  pub item_counts : Counts (path_item via).of item_points
  item_counts = record { few = item_few }

net_path_counts : Counts net_path.of path_points
unfolding net_path net_item
net_path_counts = seen_counts as_path _ (later_counts mask.of _ (later_counts wire_start.of _ (many_counts _ _ (item_counts wiring.wire_via)))) (λ p. omega arith)

special_path_counts : Counts special_path.of path_points
unfolding special_path special_item
special_path_counts = seen_counts as_path _ (later_counts mask.of _ (later_counts wire_start.of _ (many_counts _ _ (item_counts wiring.special_via)))) (λ p. omega arith)

wire_counts : Counts wire.of wire_points
unfolding wire
wire_counts = seen_counts as_wire _ (later_counts name.of _ (later_counts taper.of _ (later_counts (opt_on (codes "STYLE") int).of _ net_path_counts))) (λ w. omega arith)

new_wire_counts : Counts new_wire.of wire_points
unfolding new_wire
new_wire_counts = behind_counts _ _ wire_counts

special_wire_counts : Counts special_wire.of special_points
unfolding special_wire
special_wire_counts = seen_counts as_special_wire _ (later_counts name.of _ (later_counts (number is_size).of _ (later_counts (many is_plus wire_mark).of _ special_path_counts))) (λ w. omega arith)

new_special_wire_counts : Counts new_special_wire.of special_points
unfolding new_special_wire
new_special_wire_counts = behind_counts _ _ special_wire_counts

wiring_counts : Counts wiring.wiring.of (λ w. sum_by wire_points (w.first ∷ w.others))
unfolding wiring.wiring
wiring_counts =
    seen_counts as_wiring _ (later_counts (on (codes "NOSHIELD") empty wiring_status).of _ (seq_counts _ _ wire_counts (many_counts _ _ new_wire_counts)))
    (λ w. omega (arith, sum_by-cons wire_points w.first w.others))

special_wires_count : Counts special_wires.of (sum_by special_points)
unfolding special_wires
special_wires_count =
    seen_counts as_list _ (opt_counts _ _ (seq_counts _ _ special_wire_counts (many_counts _ _ new_special_wire_counts)))
    (elim [ [] ↦ omega arith | w ∷ all ↦ omega (arith, sum_by-cons special_points w all) ])

special_wiring_counts : Counts special_wiring.of (λ w. sum_by special_points w.wires)
unfolding special_wiring
special_wiring_counts = seen_counts as_special_wiring _ (later_counts (on (codes "SHIELD") name wiring_status).of _ special_wires_count) (λ w. omega arith)

clause_few : (c : NetClause) → clause_points c ≤ length (net_clause.of.spell c)
unfolding net_clause net_listed
clause_few (net_wiring w) = let r = wiring_counts.few w in omega (arith, r)
clause_few (net_subnet tokens) = omega arith
clause_few (net_use word) = omega arith
clause_few (net_rule word) = omega arith
clause_few (net_kept clause) = omega arith

net_clause_counts : Counts net_clause.of clause_points
net_clause_counts = record { few = clause_few }

net_counts : Counts nets.net.of (λ n. sum_by clause_points n.clauses)
unfolding nets.net
net_counts = seen_counts as_net _ (later_counts name.of _ (later_counts (many is_open terminal).of _ (many_counts _ _ net_clause_counts))) (λ n. omega arith)

net_few : (n : NetEntry) → net_points n ≤ length (net_form.of.spell n)
unfolding net_form
net_few (must_join tokens) = omega arith
net_few (is_net n) = let r = net_counts.few n in omega (arith, r, length-append (nets.net.of.spell n) (codes ";" ∷ []))

special_clause_few : (c : SpecialClause) → special_clause_points c ≤ length (special_clause.of.spell c)
unfolding special_clause special_listed special_shape
special_clause_few (special_has_wiring w) = let r = special_wiring_counts.few w in omega (arith, r)
special_clause_few (special_subnet tokens) = omega arith
special_clause_few (special_use word) = omega arith
special_clause_few (special_shape_word word) = omega arith
special_clause_few (special_mask word) = omega arith
special_clause_few (special_rectangle layer corners) = omega arith
special_clause_few (special_vias v) = omega arith
special_clause_few (special_polygon layer polygon) = omega arith
special_clause_few (special_kept clause) = omega arith

special_clause_counts : Counts special_clause.of special_clause_points
special_clause_counts = record { few = special_clause_few }

special_net_counts : Counts special_net_form.of special_net_points
unfolding special_net_form
special_net_counts =
    seen_counts as_special_net _ (behind_counts _ _ (later_counts name.of _ (later_counts (many is_open terminal).of _ (before_counts _ _ (many_counts _ _ special_clause_counts)))))
    (λ n. omega arith)

entry_few : (s : Section) (x : Entry) (ws : List (List ℕ)) → Fits (entries_form s) x ws → entry_points x ≤ length (spell (entries_form s) x)
unfolding entries_form
entry_few Nets (net n) ws fits = net_few n
entry_few SpecialNets (special_net n) ws fits = special_net_counts.few n
entry_few _ (component c) ws fits = omega arith
entry_few _ (pin p) ws fits = omega arith
entry_few _ (region r) ws fits = omega arith
entry_few _ (group g) ws fits = omega arith
entry_few _ (blockage b) ws fits = omega arith
entry_few _ (via v) ws fits = omega arith
entry_few _ (rule r) ws fits = omega arith
entry_few _ (skipped t tokens) ws fits = omega arith
entry_few _ _ ws fits = absurd fits

pub record_few : (m : Mode) (r : Record) → Fits (statement m) r [] → record_points r ≤ length (spell (statement m) r)
unfolding statement
record_few (In s) (entry x) fits = entry_few s x [] fits.1
record_few _ (top t) fits = omega arith
record_few _ (in_properties p) fits = omega arith
record_few _ (end_section s) fits = omega arith
record_few _ _ fits = absurd fits
