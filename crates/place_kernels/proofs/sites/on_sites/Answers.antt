use Rattle.std.proofs.Common.{◌-ℤ◌, w64, ◌∙◌}
use Rattle.std.specs.Int.RustNames.{FitsSigned}
use Rattle.std.proofs.lemmas.Int.{to_z-of_z}
use Rattle.place_rules.specs.Sites.{is_on_sites}
use Rattle.place_kernels.proofs.Near.{near_fits, difference_fits}
use Rattle.place_kernels.proofs.Steps.{place_is}
use Rattle.place_kernels.proofs.sites.on_sites.Goals as goal

pub returns : goal.returns
unfolding is_on_sites
returns c =
    let row = c.args.row.now in
    let area = c.args.area.now in
    let step : FitsSigned w64 row.step.x = near_fits _ c.requires.row.step_x in
    let from : FitsSigned w64 row.origin.x = near_fits _ c.requires.row.x in
    let low : FitsSigned w64 area.x1 = near_fits _ c.requires.area.x1 in
    let apart : FitsSigned w64 (area.x1 -ℤ row.origin.x) = difference_fits _ _ c.requires.area.x1 c.requires.row.x in
    let at_place = simp to_z-of_z at c.lands_on.ensures in
    at_place ∙ place_is row.columns row.origin.x row.step.x area.x1
