-- The nets of a design, by the entries of each.
use Rattle.std.specs.Prelude.{ℕ, List, map}
use Rattle.std.specs.List.{sum_by}
use Rattle.lef_grammar.specs.Library.{Library}
use Rattle.def_grammar.specs.Records.{Record}
use Rattle.connection_rules.specs.NetParts.{Net, Wired, net_names, net_of}
use Rattle.connection_rules.specs.Terminals.{pins_by_name}
use Rattle.measure_rules.specs.Lengths.{length_of, wired_length}
use Rattle.name_groups.specs.Groups.{Group}
use Rattle.drawn_parts.specs.DrawnLengths.{capped}

-- the net of a name by what its entries say
abbrev pub net_of_group : Library → List Record → ℕ → Group Wired → Net
net_of_group library design u g = net_of library.layers (pins_by_name library design u) g.name g.members

-- and its length
abbrev pub length_of_group : Group Wired → ℕ
length_of_group g = capped (sum_by wired_length g.members)

-- the lengths of a design's nets, each as it is told
abbrev pub net_lengths : Library → List Record → ℕ → List ℕ
net_lengths library design u = map (λ name. capped (length_of library design u name)) (net_names library design u)
