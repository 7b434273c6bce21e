-- A design that is measured in two steps: first all but its nets, then these, which are drawn.
use Rattle.std.specs.Prelude.{◌≡◌, ℕ, ◌<◌, ◌^◌, List, [], ◌∷◌, length, map, Option, Some, if◌then◌else◌}
use Rattle.std.specs.Str.{bytes_eq}
use Rattle.def_grammar.specs.Records.{Record}
use Rattle.lef_grammar.specs.Library.{Library}
use Rattle.connection_rules.specs.NetParts.{Net}
use Rattle.design_rules.specs.Boxes.{boxes, scale}
use Rattle.measure_rules.specs.GridCells.{columns, rows}
use Rattle.measure_rules.specs.Lengths.{total_length}
use Rattle.measure_rules.specs.NetBoxes.{box_round, rectangles_of}
use Rattle.reports.specs.Answers.{Answers}
use Rattle.reports.specs.Densities.{HoldsDensities, box_shape}
use Rattle.reports.specs.MeasuredNets.{MeasuredNet}

-- the layers and the components are those of a design; there are no nets yet, and no shapes of nets in the cells
pub record AreWithoutNets (library : Library) (design : List Record) (a : Answers) : Type 0 where
  pub layers : a.layers ≡ length library.layers
  pub nets : a.nets ≡ []
  pub cells : HoldsDensities (columns design) (rows design) [] a.cells
  pub place_cells : HoldsDensities (columns design) (rows design) (map box_shape (boxes library design)) a.place_cells
  pub fits : total_length library design (scale design) < 2 ^ 64

-- a net of a length
abbrev pub measured_net : Net → ℕ → MeasuredNet
measured_net n l = record { name = n.name; net_length = l; net_box = box_round (rectangles_of n) }

-- what is found under a name once nets of these lengths were put in, one after the other: the last of that name, or what was found before
abbrev pub found_after : List Net → List ℕ → List ℕ → Option MeasuredNet → Option MeasuredNet
found_after [] lengths name before = before
found_after (n ∷ ns) [] name before = before
found_after (n ∷ ns) (l ∷ ls) name before = found_after ns ls name (if bytes_eq n.name name then Some (measured_net n l) else before)
