use Rattle.measure_laws.proofs.CellSums.{densities_of_a_grid_add_up}
use Rattle.measure_laws.proofs.grids.densities_of_a_grid_add_up.Goals as goal

pub returns : goal.returns
returns c = densities_of_a_grid_add_up
