use Rattle.std.proofs.lemmas.Result.{on_ok_weaker}
use Rattle.reports.proofs.DensitySteps.{exchanged}
use Rattle.reports.proofs.cell_densities.CellDensities.exchange_box.Goals as goal

pub returns : goal.returns
returns g c = on_ok_weaker c.add_box.result (λ more. exchanged _ _ _ _ _ c.in_ok-take_box.ensures more) c.add_box.ensures
