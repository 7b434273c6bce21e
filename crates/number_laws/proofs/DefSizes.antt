-- The sizes of a DEF text that reads are taken as they are written.
use Rattle.std.proofs.Common.{◌≡◌, ℕ, List, [], Option, Some, None, refl, ap}
use Rattle.std.specs.List.{All, filter_map}
use Rattle.std.specs.Prelude.{IfSome}
use Rattle.std.specs.Option.{option_map}
use Rattle.std.proofs.lemmas.List.Elements.{All-nil, All-cons, All-weaker}
use Rattle.def_grammar.specs.DefVias.{DefVia, ViaClause, cut_size, cut_spacing, row_col}
use Rattle.def_grammar.specs.Limits.{is_size}
use Rattle.def_grammar.specs.Nets.{NetClause, net_wiring, NetEntry, must_join, is_net}
use Rattle.def_grammar.specs.NetWires.{wires_of}
use Rattle.def_grammar.specs.Numbers.{int_of}
use Rattle.def_grammar.specs.Records.{Entry, net, special_net, via, rule, Record, entry}
use Rattle.def_grammar.specs.Rules.{Rule, RuleLayer, RuleClause, rule_has_layer, rule_kept, layer_of_rule}
use Rattle.def_grammar.specs.SpecialNets.{SpecialClause, special_has_wiring}
use Rattle.def_grammar.specs.SpecialWires.{special_wires_of}
use Rattle.def_grammar.specs.Wiring.{WirePoint, SpecialVia, ViaArray, PathItem, path_mask, path_virtual, path_rectangle, path_point, path_via, Path, Wire, SpecialWire}
use Rattle.wire_rules.specs.Sizes.{as_size}
use Rattle.net_rules.specs.ViaRectangles.{size_of_clause, spacing_of_clause, array_of_clause}
use Rattle.number_laws.specs.PartNumbers.{Passes}
use Rattle.number_laws.specs.RecordNumbers.{EntryNumbers, RecordNumbers}
use Rattle.number_laws.specs.SizeLaws.{IsLength, AreLengths, AreCuts, PastIsWritten, StandsOnce, ArrayStands, ItemSizes, PathSizes, WireSizes, SpecialWireSizes, DefViaSizes, RuleSizes, NetSizes, EntrySizes, RecordSizes, DefSizesStand}
use Rattle.number_laws.specs.WireNumbers.{ViaArrayNumbers, NetViaNumbers, SpecialViaNumbers, ItemNumbers, PathNumbers, WireNumbers, SpecialWireNumbers, NetClauseNumbers, NetEntryNumbers, SpecialClauseNumbers, ViaClauseNumbers, DefViaNumbers, RuleClauseNumbers, RuleNumbers}
use Rattle.number_laws.proofs.EachOf.{filter_map_each, first_of_each, flat_map_each, with_all_each}
use Rattle.number_laws.proofs.RecordTells.{def_numbers_pass}
use Rattle.number_laws.proofs.SizeNumbers.{size_stands, sizes_stand, cuts_stand, array_stands}

past_by : (o : Option (List ℕ)) → IfSome o (Passes is_size) → option_map (λ e. as_size (int_of e)) o ≡ option_map int_of o
past_by None e = refl
past_by (Some w) e = ap Some (size_stands w e)

past : (p : WirePoint) → IfSome p.extension (Passes is_size) → PastIsWritten p
past p e = past_by p.extension e

array_by : (o : Option ViaArray) (v : SpecialVia) → v.array ≡ o → IfSome o ViaArrayNumbers → ArrayStands v
array_by None v is n = rw is tt
array_by (Some a) v is n = rw is (array_stands a.columns a.rows n.0 n.1 n.2)

array : (v : SpecialVia) → SpecialViaNumbers v → ArrayStands v
array v n = array_by v.array v refl n

module _ {Via : Type 0} (P Q : Via → Type 0) (so : (v : Via) → P v → Q v) where
  item_sizes : (i : PathItem Via) → ItemNumbers P i → ItemSizes Q i
  item_sizes (path_mask word) n = tt
  item_sizes (path_virtual at) n = tt
  item_sizes (path_rectangle corners) n = tt
  item_sizes (path_point at) n = past at n.1
  item_sizes (path_via v) n = so v n

  path_sizes : (p : Path Via) → PathNumbers P p → PathSizes Q p
  path_sizes p n = (past p.start n.0.1, All-weaker (ItemNumbers P) (ItemSizes Q) item_sizes p.items n.1)

wire_sizes : (w : Wire) → WireNumbers w → WireSizes w
wire_sizes w n = path_sizes NetViaNumbers StandsOnce (λ v m. tt) w.path n.1

special_wire_sizes : (w : SpecialWire) → SpecialWireNumbers w → SpecialWireSizes w
special_wire_sizes w n = (size_stands w.width n.0, path_sizes SpecialViaNumbers ArrayStands array w.path n.2)

clause_sizes : (c : NetClause) → NetClauseNumbers c → All WireSizes (wires_of c)
clause_sizes (net_wiring w) n = All-cons WireSizes w.first w.others (wire_sizes w.first n.0) (All-weaker WireNumbers WireSizes wire_sizes w.others n.1)
clause_sizes _ n = All-nil WireSizes

net_sizes : (e : NetEntry) → NetEntryNumbers e → NetSizes e
net_sizes (must_join tokens) n = tt
net_sizes (is_net e) n = flat_map_each wires_of NetClauseNumbers WireSizes clause_sizes e.clauses n

special_clause_sizes : (c : SpecialClause) → SpecialClauseNumbers c → All SpecialWireSizes (special_wires_of c)
special_clause_sizes (special_has_wiring w) n = All-weaker SpecialWireNumbers SpecialWireSizes special_wire_sizes w.wires n
special_clause_sizes _ n = All-nil SpecialWireSizes

size_by : (c : ViaClause) → ViaClauseNumbers c → IfSome (size_of_clause c) AreLengths
size_by (cut_size size) n = sizes_stand size n
size_by _ n = tt

spacing_by : (c : ViaClause) → ViaClauseNumbers c → IfSome (spacing_of_clause c) AreLengths
spacing_by (cut_spacing space) n = sizes_stand space n
spacing_by _ n = tt

cuts_by : (c : ViaClause) → ViaClauseNumbers c → IfSome (array_of_clause c) AreCuts
cuts_by (row_col a) n = (cuts_stand a.rows n.0, cuts_stand a.columns n.1)
cuts_by _ n = tt

via_sizes : (v : DefVia) → DefViaNumbers v → DefViaSizes v
via_sizes v n =
    (first_of_each size_of_clause ViaClauseNumbers AreLengths size_by v.clauses n, first_of_each spacing_of_clause ViaClauseNumbers AreLengths spacing_by v.clauses n, first_of_each array_of_clause ViaClauseNumbers AreCuts cuts_by v.clauses n)

abbrev LayerIsLength : RuleLayer → Type 0
LayerIsLength l = IsLength (int_of l.width)

layer_by : (c : RuleClause) → RuleClauseNumbers c → IfSome (layer_of_rule c) LayerIsLength
layer_by (rule_has_layer l) n = size_stands l.width n
layer_by (rule_kept clause) n = tt

rule_sizes : (r : Rule) → RuleNumbers r → RuleSizes r
rule_sizes r n = with_all_each (λ (l : RuleLayer). l.layer) LayerIsLength [] (filter_map layer_of_rule r.clauses) (All-nil LayerIsLength) (filter_map_each layer_of_rule RuleClauseNumbers LayerIsLength layer_by r.clauses n)

entry_sizes : (e : Entry) → EntryNumbers e → EntrySizes e
entry_sizes (net e) n = net_sizes e n
entry_sizes (special_net e) n = flat_map_each special_wires_of SpecialClauseNumbers SpecialWireSizes special_clause_sizes e.clauses n
entry_sizes (via v) n = via_sizes v n
entry_sizes (rule r) n = rule_sizes r n
entry_sizes _ n = tt

record_sizes : (r : Record) → RecordNumbers r → RecordSizes r
record_sizes (entry e) n = entry_sizes e n
record_sizes _ n = tt

pub def_sizes_stand : DefSizesStand
def_sizes_stand text recs e = All-weaker RecordNumbers RecordSizes record_sizes recs (def_numbers_pass text recs e)
