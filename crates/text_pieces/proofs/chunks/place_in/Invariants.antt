use Rattle.std.proofs.Common.{take}
use Rattle.text_pieces.specs.Chunks.{IsAbsent}
use Rattle.text_pieces.proofs.chunks.place_in.Given as goal

abbrev pub invariant-loop-i : goal.invariant-loop-i
invariant-loop-i l = IsAbsent l.id (take l.i l.ids)
