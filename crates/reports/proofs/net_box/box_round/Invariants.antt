use Rattle.std.proofs.Common.{◌≡◌, map, take}
use Rattle.std.specs.Option.{option_map}
use Rattle.design_model.specs.Views.{rectangle_of}
use Rattle.measure_rules.specs.NetBoxes.{box_round}
use Rattle.reports.specs.MeasuredNets.{shape_box}
use Rattle.reports.proofs.net_box.box_round.Given as goal

abbrev pub invariant-loop-shape : goal.invariant-loop-shape
invariant-loop-shape l = option_map rectangle_of l.bounds ≡ box_round (map shape_box (take l.shape-index l.shapes))
