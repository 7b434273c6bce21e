-- What building a net gives.
use Rattle.std.specs.Prelude.{◌≡◌, ◌<◌, ℕ, Bool, List, [], ◌∷◌, ◌++◌, length}
use Rattle.lef_grammar.specs.Measures.{Shape}
use Rattle.connection_rules.specs.NetParts.{Net, Part}
use Rattle.net_lists.specs.Building.{bare_net, bare_part, IsBuilt, last_parts, with_part, with_parts, with_shape, with_shapes}

-- a net that is begun, and given its parts one after the other, each with its shapes, stands behind the others
abbrev pub BuildingANet : Type 0
BuildingANet =
    (old : List Net) (name : List ℕ) (is_power : Bool) (parts : List Part)
    → with_parts parts (old ++ bare_net name is_power ∷ []) ≡ old ++ record { name = name; is_power = is_power; parts = parts } ∷ []

-- the steps of it: a net that is begun has no parts; a part that is begun comes behind them, and a shape into the last of them; and so do
-- several parts with their shapes, and several shapes
pub record BuildingSteps (old : List Net) (name : List ℕ) (is_power : Bool) : Type 0 where
  pub begun : IsBuilt old name is_power [] (old ++ bare_net name is_power ∷ [])
  pub part : (parts : List Part) (now : List Net) (is_pin : Bool)
      → IsBuilt old name is_power parts now → IsBuilt old name is_power (parts ++ bare_part is_pin ∷ []) (with_part is_pin now)
  pub shape : (parts : List Part) (is_pin : Bool) (shapes : List Shape) (now : List Net) (s : Shape)
      → IsBuilt old name is_power (parts ++ record { is_pin = is_pin; shapes = shapes } ∷ []) now
      → IsBuilt old name is_power (parts ++ record { is_pin = is_pin; shapes = shapes ++ s ∷ [] } ∷ []) (with_shape s now)
  pub several_parts : (parts more : List Part) (now : List Net) → IsBuilt old name is_power parts now → IsBuilt old name is_power (parts ++ more) (with_parts more now)
  pub several_shapes : (parts : List Part) (is_pin : Bool) (shapes more : List Shape) (now : List Net)
      → IsBuilt old name is_power (parts ++ record { is_pin = is_pin; shapes = shapes } ∷ []) now
      → IsBuilt old name is_power (parts ++ record { is_pin = is_pin; shapes = shapes ++ more } ∷ []) (with_shapes more now)

-- where so much of a net is built there is a net, and the last has these parts
pub record GrowingNets (old : List Net) (name : List ℕ) (is_power : Bool) (parts : List Part) (now : List Net) : Type 0 where
  pub some : 0 < length now
  pub last : last_parts now ≡ parts
