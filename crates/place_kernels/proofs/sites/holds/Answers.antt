use Rattle.std.proofs.Common.{◌-ℤ◌, w64, ◌∙◌}
use Rattle.std.specs.Int.RustNames.{FitsSigned}
use Rattle.std.proofs.lemmas.Int.{to_z-of_z}
use Rattle.place_rules.specs.Sites.{holds}
use Rattle.place_kernels.proofs.Near.{near_fits, difference_fits}
use Rattle.place_kernels.proofs.Steps.{place_is, after_true, after_false}
use Rattle.place_kernels.proofs.sites.holds.Goals as goal

pub returns-then-lands_on : goal.returns-then-lands_on
unfolding holds
returns-then-lands_on c =
    let row = c.args.row.now in
    let area = c.args.area.now in
    let step : FitsSigned w64 row.step.y = near_fits _ c.requires.row.step_y in
    let from : FitsSigned w64 row.origin.y = near_fits _ c.requires.row.y in
    let low : FitsSigned w64 area.y1 = near_fits _ c.requires.area.y1 in
    let apart : FitsSigned w64 (area.y1 -ℤ row.origin.y) = difference_fits _ _ c.requires.area.y1 c.requires.row.y in
    let on_edge = simp to_z-of_z at c.if-lands_on.ensures in
    after_true _ _ _ (on_edge ∙ place_is row.rows row.origin.y row.step.y area.y1) c.spans.ensures

pub returns-else-lands_on : goal.returns-else-lands_on
unfolding holds
returns-else-lands_on c =
    let row = c.args.row.now in
    let area = c.args.area.now in
    let step : FitsSigned w64 row.step.y = near_fits _ c.requires.row.step_y in
    let from : FitsSigned w64 row.origin.y = near_fits _ c.requires.row.y in
    let low : FitsSigned w64 area.y1 = near_fits _ c.requires.area.y1 in
    let apart : FitsSigned w64 (area.y1 -ℤ row.origin.y) = difference_fits _ _ c.requires.area.y1 c.requires.row.y in
    let on_edge = simp to_z-of_z at c.if-lands_on.ensures in
    c.if-lands_on.false ∙ after_false _ _ (on_edge ∙ place_is row.rows row.origin.y row.step.y area.y1)
