use Rattle.text_pieces.specs.Chunks.{shown, shown_change}
use Rattle.text_pieces.proofs.Going.{Going}
use Rattle.text_pieces.proofs.chunks.exchange.Given as goal

abbrev pub invariant-loop-i : goal.invariant-loop-i
invariant-loop-i g l = Going shown shown_change l.fn.chunks l.fn.changes l.i l.chunks l.changes
