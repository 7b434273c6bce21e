use Rattle.measure_laws.proofs.OrderedLines.{lines_are_in_order}
use Rattle.measure_laws.proofs.grids.lines_are_in_order.Goals as goal

pub returns : goal.returns
returns c = lines_are_in_order
