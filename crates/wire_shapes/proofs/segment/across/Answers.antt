use Rattle.std.proofs.Common.{arith}
use Rattle.std.proofs.lemmas.Int.{ints}
use Rattle.wire_shapes.proofs.segment.across.Goals as goal

pub returns : goal.returns
returns c = record { from = omega (arith, ints); to = omega (arith, ints); low_near = record { low = omega (arith, ints); high = omega (arith, ints) }; high_near = record { low = omega (arith, ints); high = omega (arith, ints) } }
