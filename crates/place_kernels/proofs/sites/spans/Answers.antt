use Rattle.std.proofs.Common.{pos, ◌-ℤ◌, w64, ◌∙◌}
use Rattle.std.specs.Int.RustNames.{FitsSigned}
use Rattle.std.proofs.lemmas.Int.{to_z-of_z}
use Rattle.place_rules.specs.Sites.{spans}
use Rattle.place_kernels.proofs.Near.{near_fits, negated_fits, difference_fits, differences_fit}
use Rattle.place_kernels.proofs.Steps.{place_left_of, place_right_of, after_true, after_false}
use Rattle.place_kernels.proofs.sites.spans.Goals as goal

pub returns-then-reaches : goal.returns-then-reaches
unfolding spans
returns-then-reaches c =
    let row = c.args.row.now in
    let area = c.args.area.now in
    let near = c.requires.row in
    let step : FitsSigned w64 row.step.x = near_fits _ near.step_x in
    let back : FitsSigned w64 (pos 0 -ℤ row.step.x) = negated_fits _ near.step_x in
    let from : FitsSigned w64 row.origin.x = near_fits _ near.x in
    let width : FitsSigned w64 row.size.x = near_fits _ near.width in
    let low : FitsSigned w64 area.x1 = near_fits _ c.requires.area.x1 in
    let high : FitsSigned w64 area.x2 = near_fits _ c.requires.area.x2 in
    let to_left : FitsSigned w64 (row.origin.x -ℤ area.x1) = difference_fits _ _ near.x c.requires.area.x1 in
    let inner : FitsSigned w64 (area.x2 -ℤ row.size.x) = difference_fits _ _ c.requires.area.x2 near.width in
    let to_right : FitsSigned w64 ((area.x2 -ℤ row.size.x) -ℤ row.origin.x) = differences_fit _ _ _ c.requires.area.x2 near.width near.x in
    let left = simp to_z-of_z at c.if-reaches.ensures in
    let right = simp to_z-of_z at c.reaches-then-reaches.ensures in
    after_true _ _ _
    (left ∙ place_left_of row.columns row.origin.x row.step.x area.x1)
    (right ∙ place_right_of row.columns row.origin.x row.step.x area.x2 row.size.x)

pub returns-else-reaches : goal.returns-else-reaches
unfolding spans
returns-else-reaches c =
    let row = c.args.row.now in
    let area = c.args.area.now in
    let near = c.requires.row in
    let step : FitsSigned w64 row.step.x = near_fits _ near.step_x in
    let back : FitsSigned w64 (pos 0 -ℤ row.step.x) = negated_fits _ near.step_x in
    let from : FitsSigned w64 row.origin.x = near_fits _ near.x in
    let low : FitsSigned w64 area.x1 = near_fits _ c.requires.area.x1 in
    let to_left : FitsSigned w64 (row.origin.x -ℤ area.x1) = difference_fits _ _ near.x c.requires.area.x1 in
    let left = simp to_z-of_z at c.if-reaches.ensures in
    c.if-reaches.false ∙ after_false _ _ (left ∙ place_left_of row.columns row.origin.x row.step.x area.x1)
