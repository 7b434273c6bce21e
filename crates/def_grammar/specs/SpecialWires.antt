-- The wires of a special net: those of its wiring clauses, in their order. A rectangle, a via and a polygon are no
-- wires.
use Rattle.std.specs.Prelude.{List, [], flat_map}
use Rattle.def_grammar.specs.SpecialNets.{SpecialClause, special_subnet, special_use, special_shape_word, special_mask, special_rectangle, special_vias, special_polygon, special_has_wiring, special_kept, SpecialNet}
use Rattle.def_grammar.specs.Wiring.{SpecialWire}

abbrev pub special_wires_of : SpecialClause → List SpecialWire
special_wires_of (special_subnet tokens) = []
special_wires_of (special_use word) = []
special_wires_of (special_shape_word word) = []
special_wires_of (special_mask word) = []
special_wires_of (special_rectangle layer corners) = []
special_wires_of (special_vias via) = []
special_wires_of (special_polygon layer polygon) = []
special_wires_of (special_has_wiring wiring) = wiring.wires
special_wires_of (special_kept clause) = []

abbrev pub special_net_wires : SpecialNet → List SpecialWire
special_net_wires n = flat_map special_wires_of n.clauses
