-- How many points the wires of a record go to, but for the one that each path begins with.
use Rattle.std.proofs.Common.{ℕ, sum_by}
use Rattle.def_grammar.specs.Nets.{NetClause, NetEntry, must_join, is_net}
use Rattle.def_grammar.specs.NetWires.{wires_of}
use Rattle.def_grammar.specs.Records.{Entry, net, special_net, Record, entry}
use Rattle.def_grammar.specs.SpecialNets.{SpecialClause, SpecialNet}
use Rattle.def_grammar.specs.SpecialWires.{special_wires_of}
use Rattle.def_grammar.specs.Wiring.{PathItem, path_point, Path, Wire, SpecialWire}

abbrev pub item_points : {Via : Type 0} → PathItem Via → ℕ
item_points (path_point at) = 1
item_points _ = 0

abbrev pub path_points : {Via : Type 0} → Path Via → ℕ
path_points {Via = Via} p = sum_by (item_points {Via = Via}) p.items

abbrev pub wire_points : Wire → ℕ
wire_points w = path_points w.path

abbrev pub special_points : SpecialWire → ℕ
special_points w = path_points w.path

abbrev pub clause_points : NetClause → ℕ
clause_points c = sum_by wire_points (wires_of c)

abbrev pub special_clause_points : SpecialClause → ℕ
special_clause_points c = sum_by special_points (special_wires_of c)

abbrev pub net_points : NetEntry → ℕ
net_points (must_join tokens) = 0
net_points (is_net n) = sum_by clause_points n.clauses

abbrev pub special_net_points : SpecialNet → ℕ
special_net_points n = sum_by special_clause_points n.clauses

abbrev pub entry_points : Entry → ℕ
entry_points (net n) = net_points n
entry_points (special_net n) = special_net_points n
entry_points _ = 0

abbrev pub record_points : Record → ℕ
record_points (entry e) = entry_points e
record_points _ = 0
