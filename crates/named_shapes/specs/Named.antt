-- Shapes under the names of their nets.
use Rattle.std.specs.Prelude.{◌≡◌, ℕ, not, nat_lt, false, true, List, map, flat_map, length, count_by, Option, slice_get}
use Rattle.std.specs.List.{filter_map}
use Rattle.std.specs.Option.{option_map}
use Rattle.lef_grammar.specs.Measures.{Shape}
use Rattle.connection_rules.specs.NetLines.{NetShape, shapes_of_net}
use Rattle.connection_rules.specs.NetParts.{Net}
use Rattle.net_lists.specs.Heads.{Head}
use Rattle.net_queries.specs.declared.owner.PartOwner.{PartOwner}

-- a shape of a net, by the net's name alone
abbrev pub named : List ℕ → Shape → NetShape
named net s = record { net = net; is_power = false; is_drawn = false; shape = s }

-- the shapes of nets
abbrev pub by_name : NetShape → NetShape
by_name s = named s.net s.shape

abbrev pub shapes_by_name : List Net → List NetShape
shapes_by_name nets = map by_name (flat_map shapes_of_net nets)

-- shapes, each with the place of its net's name, by that name
abbrev pub named_by : List (List ℕ) → ℕ × Shape → Option NetShape
named_by names p = option_map (λ net. named net p.1) (slice_get names p.0)

abbrev pub named_shapes : List (List ℕ) → List (ℕ × Shape) → List NetShape
named_shapes names placed = filter_map (named_by names) placed

-- each place has a name
pub record HaveNames (names : List (List ℕ)) (placed : List (ℕ × Shape)) : Type 0 where
  pub none_without : count_by (λ p. not (nat_lt p.0 (length names))) placed ≡ 0

-- whose the shapes of a number are: the net's that has the name at this place
abbrev pub owned_at : ℕ → List ℕ → PartOwner × Head
owned_at n name = (record { net = n; is_pin = true }, record { name = name; is_power = false; parts = 0 })

abbrev pub owner_in : List (List ℕ) → ℕ → Option (PartOwner × Head)
owner_in names n = option_map (owned_at n) (slice_get names n)
