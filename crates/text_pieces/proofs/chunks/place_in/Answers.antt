use Rattle.std.proofs.Common.{sym}
use Rattle.text_pieces.proofs.Ids.{absent_more}
use Rattle.text_pieces.proofs.chunks.place_in.Goals as goal

pub loop-i-preserved : goal.loop-i-preserved
loop-i-preserved c = absent_more c.args.id c.args.ids.now c.loop-i.i _ c.loop-i.invariant c.loop-i-test.true (λ e. c.if-ids-i.false (sym e))
