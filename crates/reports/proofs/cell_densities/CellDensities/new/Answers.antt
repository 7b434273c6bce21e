use Rattle.reports.proofs.DensitySteps.{none_held}
use Rattle.reports.proofs.cell_densities.CellDensities.new.Goals as goal

pub returns : goal.returns
returns g c = none_held _ _ _ c.new.ensures
