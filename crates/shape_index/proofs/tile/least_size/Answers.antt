use Rattle.std.proofs.Common.{arith}
use Rattle.shape_index.proofs.TileSizes.{largest_is, least_is}
use Rattle.shape_index.proofs.tile.least_size.Goals as goal

pub returns-then-side-gt-LARGEST-clause-value : goal.returns-then-side-gt-LARGEST-clause-value
returns-then-side-gt-LARGEST-clause-value c = largest_is c.args.side (omega arith)

pub returns-else-side-gt-LARGEST-clause-value : goal.returns-else-side-gt-LARGEST-clause-value
returns-else-side-gt-LARGEST-clause-value c =
    let p = c.next_power_of_two.ensures.power in
    least_is c.args.side c.next_power_of_two.result p.0 p.1 c.next_power_of_two.ensures.lower_bound c.next_power_of_two.ensures.upper_bound (omega arith)
