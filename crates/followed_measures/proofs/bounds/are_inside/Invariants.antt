use Rattle.std.proofs.Common.{drop, map}
use Rattle.design_model.specs.Views.{rectangle_of}
use Rattle.net_lists.specs.PartCuts.{shape_view}
use Rattle.followed_measures.specs.Bounds.{AreInside, boxes_in}
use Rattle.followed_measures.proofs.bounds.are_inside.Given as goal

abbrev pub invariant-loop-shape : goal.invariant-loop-shape
invariant-loop-shape l = AreInside (rectangle_of l.bounds) (boxes_in (map shape_view (drop l.shape-index l.shapes))) → AreInside (rectangle_of l.bounds) (boxes_in (map shape_view l.shapes))
