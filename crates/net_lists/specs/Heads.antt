-- What the head of a net tells.
use Rattle.std.specs.Prelude.{ℕ, Bool, List, length}
use Rattle.connection_rules.specs.NetParts.{Net}

-- a net's name, whether it is of power, and how many parts it has
pub record Head : Type 0 where
  pub name : List ℕ
  pub is_power : Bool
  pub parts : ℕ

abbrev pub head_of : Net → Head
head_of n = record { name = n.name; is_power = n.is_power; parts = length n.parts }
