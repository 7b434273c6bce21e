use Rattle.std.proofs.Common.{w64, rules}
use Rattle.std.specs.Int.RustNames.{FitsSigned}
use Rattle.std.proofs.lemmas.Int.{to_z-of_z}
use Rattle.orient_geom.proofs.Squares.{after_true}
use Rattle.orient_geom.proofs.covering.has_square.Goals as goal

pub returns-then-is_from_to : goal.returns-then-is_from_to
returns-then-is_from_to c =
    let rect = c.args.rect.now in
    let x1 : FitsSigned w64 rect.x1 = search rules in
    let x2 : FitsSigned w64 rect.x2 = search rules in
    let y1 : FitsSigned w64 rect.y1 = search rules in
    let y2 : FitsSigned w64 rect.y2 = search rules in
    let x : FitsSigned w64 c.args.x = c.ranges.x in
    let y : FitsSigned w64 c.args.y = c.ranges.y in
    after_true _ _ _ (simp to_z-of_z at c.if-is_from_to.ensures) (simp to_z-of_z at c.is_from_to-then-is_from_to.ensures)
