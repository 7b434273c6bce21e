use Rattle.std.proofs.Common.{◌≡◌, arith, of_z, to_z, w64}
use Rattle.std.proofs.lemmas.Int.{ints}
use Rattle.design_model.specs.Views.{rectangle_of}
use Rattle.cell_library.specs.CellViews.{cell_view}
use Rattle.place_checks.proofs.BoxLemmas.{boundary_by}
use Rattle.place_checks.proofs.outline.boundary_of.Goals as goal

pub returns-clause-spans : goal.returns-clause-spans
returns-clause-spans g c =
    let p = c.size-size.result in
    let wide : to_z w64 (of_z w64 p.x) ≡ p.x = omega (arith, ints, c.size-size.ensures.narrow) in
    let high : to_z w64 (of_z w64 p.y) ≡ p.y = omega (arith, ints, c.size-size.ensures.low) in
    boundary_by c.args.scale (cell_view c.args.cell).cell.size p _ _ (rectangle_of c.corner_box.result) c.size-size.ensures.units wide high c.corner_box.ensures.spans
