use Rattle.std.proofs.Common.{◌≡◌, ◌+◌, ℕ, subst, rules}
use Rattle.std.proofs.lemmas.Result.{on_ok_weaker}
use Rattle.design_model.specs.Views.{rectangle_of}
use Rattle.cell_sums.specs.Tables.{Adds, CellTable}
use Rattle.reports.specs.Densities.{came, shape_on}
use Rattle.reports.proofs.DensitySteps.{less_by_one}
use Rattle.reports.proofs.cell_densities.CellDensities.take.Goals as goal

pub returns : goal.returns
returns g c =
    let r = rectangle_of c.args.rect in
    let now = c.add.new.self in
    let is : c.in_ok-came.came ≡ came c.args.layer = search rules in
    on_ok_weaker c.add.result
    (λ adds.
    less_by_one (shape_on c.args.layer r) c.args.self.now now
    (subst (λ (n : ℕ). Adds (n + 1) r c.args.self.now now) is (subst (λ (t : CellTable). Adds (c.in_ok-came.came + 1) r t now) c.self.view_is adds)))
    c.add.ensures
