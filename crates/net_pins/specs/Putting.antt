-- Parts that shapes are put into.
use Rattle.std.specs.Prelude.{◌≡◌, ◌<◌, List, length}
use Rattle.lef_grammar.specs.Measures.{Shape}
use Rattle.connection_rules.specs.NetParts.{Net}
use Rattle.net_lists.specs.Building.{last_parts, with_shapes}

-- there is a net, and the last has a part
pub record HasPart (ns : List Net) : Type 0 where
  pub net : 0 < length ns
  pub part : 0 < length (last_parts ns)

-- of all shapes these are left to be put into the last part
pub record Puts (all : List Shape) (old : List Net) (left : List Shape) (now : List Net) : Type 0 where
  pub same : with_shapes left now ≡ with_shapes all old
  pub part : HasPart now
