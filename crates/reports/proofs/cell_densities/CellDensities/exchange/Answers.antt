use Rattle.std.proofs.lemmas.Result.{on_ok_weaker}
use Rattle.reports.proofs.DensitySteps.{exchanged}
use Rattle.reports.proofs.cell_densities.CellDensities.exchange.Goals as goal

pub returns : goal.returns
returns g c = on_ok_weaker c.add_shapes.result (λ more. exchanged _ _ _ _ _ c.in_ok-take_shapes.ensures more) c.add_shapes.ensures
