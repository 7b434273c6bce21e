use Rattle.std.proofs.Common.{◌≡◌, ◌++◌, List, map, take}
use Rattle.std.specs.Option.{option_map}
use Rattle.design_model.specs.Geometry.{Rectangle}
use Rattle.design_model.specs.Views.{rectangle_of}
use Rattle.measure_rules.specs.NetBoxes.{box_round}
use Rattle.followed_measures.proofs.BoxLemmas.{shape_box}
use Rattle.followed_measures.proofs.bounds.grown.Given as goal

abbrev pub invariant-loop-shape : goal.invariant-loop-shape
invariant-loop-shape l = (rest : List Rectangle) → option_map rectangle_of l.fn.others ≡ box_round rest → option_map rectangle_of l.bounds ≡ box_round (rest ++ map shape_box (take l.shape-index l.shapes))
