use Rattle.std.proofs.Common.{arith}
use Rattle.text_pieces.proofs.table.PieceTable.chunk_touched.Goals as goal

pub overflow_add-end : goal.overflow_add-end
overflow_add-end g c = omega (arith, c.bytes_in.ensures.fits, c.loop-k.invariant.0)

pub loop-k-preserved : goal.loop-k-preserved
loop-k-preserved g c = (omega (arith, c.bytes_in.ensures.more, c.loop-k.invariant.0), λ u. c.if-pos-end.false)

pub returns-then-pos-end-clause-high : goal.returns-then-pos-end-clause-high
returns-then-pos-end-clause-high g c = λ _. omega (arith, c.bytes_in.ensures.more, c.loop-k.invariant.0, c.if-pos-end.true)
