use Rattle.measure_laws.proofs.OrderedLines.{order_is_one}
use Rattle.measure_laws.proofs.grids.order_is_one.Goals as goal

pub returns : goal.returns
returns c = order_is_one
