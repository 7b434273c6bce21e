use Rattle.std.proofs.Common.{arith}
use Rattle.text_pieces.proofs.table.PieceTable.weight_before.Goals as goal

pub overflow_add-sum : goal.overflow_add-sum
overflow_add-sum g c = omega (arith, c.bytes_in-sum.ensures.fits, c.loop-k.invariant)

pub loop-k-preserved : goal.loop-k-preserved
loop-k-preserved g c = omega (arith, c.bytes_in-sum.ensures.more, c.loop-k.invariant)
