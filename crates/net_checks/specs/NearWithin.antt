-- How many pairs of shapes are compared at most to find how the parts of nets hang together, and how many at least.
use Rattle.std.specs.Prelude.{ℕ, List, map, sum_by}
use Rattle.lef_grammar.specs.Measures.{Shape}
use Rattle.connection_rules.specs.NetLines.{shapes_of_net}
use Rattle.connection_rules.specs.NetParts.{Net}
use Rattle.shape_index.specs.Near.{met_shapes, near_shapes}

-- how many of some shapes are near each of them, itself among them
abbrev pub near_themselves : List Shape → ℕ
near_themselves shapes = sum_by (λ (s : Shape). near_shapes s shapes) shapes

-- so of the shapes of a net
abbrev pub near_in_net : Net → ℕ
near_in_net net = near_themselves (map (λ n. n.shape) (shapes_of_net net))

-- so of each of some nets by itself
abbrev pub near_within : List Net → ℕ
near_within nets = sum_by near_in_net nets

-- how many of some shapes meet each of them, itself among them
abbrev pub met_themselves : List Shape → ℕ
met_themselves shapes = sum_by (λ (s : Shape). met_shapes s shapes) shapes

-- so of the shapes of a net
abbrev pub met_in_net : Net → ℕ
met_in_net net = met_themselves (map (λ n. n.shape) (shapes_of_net net))

-- so of each of some nets by itself
abbrev pub met_within : List Net → ℕ
met_within nets = sum_by met_in_net nets
