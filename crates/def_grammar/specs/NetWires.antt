-- The wires of a net: those of its wiring clauses, in their order.
use Rattle.std.specs.Prelude.{List, [], ◌∷◌, flat_map}
use Rattle.def_grammar.specs.Nets.{NetClause, net_subnet, net_use, net_rule, net_wiring, net_kept, Net}
use Rattle.def_grammar.specs.Wiring.{Wire}

abbrev pub wires_of : NetClause → List Wire
wires_of (net_subnet tokens) = []
wires_of (net_use word) = []
wires_of (net_rule name) = []
wires_of (net_wiring wiring) = wiring.first ∷ wiring.others
wires_of (net_kept clause) = []

abbrev pub net_wires : Net → List Wire
net_wires n = flat_map wires_of n.clauses
