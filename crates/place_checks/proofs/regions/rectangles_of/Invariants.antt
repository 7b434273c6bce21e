use Rattle.std.proofs.Common.{◌≡◌, ◌++◌, map}
use Rattle.design_model.specs.Views.{rectangle_of}
use Rattle.def_grammar.specs.Points.{points_after}
use Rattle.def_grammar.specs.Regions.{region_points, written_corners}
use Rattle.def_parts.specs.PointViews.{point_view}
use Rattle.place_parts.specs.RegionViews.{later_corners_of, region_view}
use Rattle.def_grammar.specs.Points.{rectangles_of}
use Rattle.place_checks.proofs.regions.rectangles_of.Given as goal

abbrev pub invariant-loop-later : goal.invariant-loop-later
invariant-loop-later g l = map rectangle_of l.rectangles.items ++ rectangles_of (points_after (point_view l.last) (written_corners (later_corners_of l.left))) ≡ rectangles_of (region_points (region_view l.region))

abbrev pub decreases-loop-later : goal.decreases-loop-later
decreases-loop-later g l = l.left.most
