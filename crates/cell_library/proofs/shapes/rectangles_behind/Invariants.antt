use Rattle.std.proofs.Common.{◌≡◌, ◌++◌, drop, map}
use Rattle.cell_library.specs.Numbers.{rectangle_view}
use Rattle.cell_library.specs.Records.{records_view}
use Rattle.cell_library.specs.ShapeViews.{rectangles_behind}
use Rattle.cell_library.proofs.shapes.rectangles_behind.Given as goal

abbrev pub invariant-loop-statement : goal.invariant-loop-statement
invariant-loop-statement g l =
    map rectangle_view l.rectangles ++ rectangles_behind (records_view (drop l.statement-index l.behind)) ≡ rectangles_behind (records_view l.behind)
