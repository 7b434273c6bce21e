use Rattle.measure_laws.proofs.GridRanges.{cells_fit}
use Rattle.measure_laws.proofs.ranges.cells_fit.Goals as goal

pub returns : goal.returns
returns c = cells_fit c.def_numbers_pass.ensures
