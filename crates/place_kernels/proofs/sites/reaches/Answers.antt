use Rattle.std.proofs.Common.{arith}
use Rattle.std.proofs.lemmas.Int.{ints}
use Rattle.place_kernels.proofs.Steps.{reaches_none}
use Rattle.place_kernels.proofs.sites.reaches.Goals as goal

pub returns-then-step-le0 : goal.returns-then-step-le0
returns-then-step-le0 c = reaches_none c.args.count c.args.step c.args.distance (grind (arith, ints)) (grind (arith, ints))
