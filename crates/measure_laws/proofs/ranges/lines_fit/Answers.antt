use Rattle.measure_laws.proofs.GridRanges.{lines_fit}
use Rattle.measure_laws.proofs.ranges.lines_fit.Goals as goal

pub returns : goal.returns
returns c = lines_fit c.def_numbers_pass.ensures
