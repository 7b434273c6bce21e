-- What is told of nets, without shapes that stay where it goes and other shapes of the nets come.
use Rattle.std.specs.Prelude.{List, ◌++◌, ℕ, flat_map, map}
use Rattle.connection_rules.specs.NetLines.{NetShape}
use Rattle.line_laws.specs.Lines.{SameLines, SameThings}
use Rattle.named_shapes.specs.Named.{named}
use Rattle.followed_nets.specs.Told.{Told}

-- the shapes of what is told, each by its net's name, and the lines
abbrev pub named_in : List Told → List NetShape
named_in ts = flat_map (λ (t : Told). map (named t.name) t.shapes) ts

abbrev pub lines_in : List Told → List (List ℕ)
lines_in ts = flat_map (λ (t : Told). t.lines) ts

-- some is all that is told but for these shapes
pub record Lacks (some all : List Told) (stay : List NetShape) : Type 0 where
  pub shapes_are : SameThings (named_in all) (named_in some ++ stay)
  pub lines_are : SameLines (lines_in all) (lines_in some)

-- what goes and what comes lack the same shapes
abbrev pub LackTheSame : List Told → List Told → List Told → List Told → Type 0
LackTheSame gone come all_gone all_come = (stay : List NetShape) × Lacks gone all_gone stay × Lacks come all_come stay
