use Rattle.measure_laws.proofs.CellSums.{cells_of_a_grid_add_up}
use Rattle.measure_laws.proofs.grids.cells_of_a_grid_add_up.Goals as goal

pub returns : goal.returns
returns c = cells_of_a_grid_add_up
