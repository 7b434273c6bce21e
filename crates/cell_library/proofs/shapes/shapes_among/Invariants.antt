use Rattle.std.proofs.Common.{◌≡◌, ◌++◌, drop, map}
use Rattle.cell_library.specs.Records.{records_view}
use Rattle.cell_library.specs.ShapeViews.{shapes_view}
use Rattle.cell_library.proofs.ShapeLemmas.{shapes_in}
use Rattle.cell_library.proofs.shapes.shapes_among.Given as goal

abbrev pub invariant-loop-place : goal.invariant-loop-place
invariant-loop-place g l = map shapes_view l.shapes ++ shapes_in (records_view (drop l.place l.inner)) ≡ shapes_in (records_view l.inner)
