use Rattle.std.proofs.Common.{◌≡◌, drop, map}
use Rattle.text_pieces.specs.Chunks.{all_ids, first_id, shown}
use Rattle.text_pieces.proofs.table.PieceTable.first_from.Given as goal

abbrev pub invariant-loop-k : goal.invariant-loop-k
invariant-loop-k g l = let cs = map shown l.self.chunks.items in first_id (all_ids (drop l.k cs)) ≡ first_id (all_ids (drop l.from cs))
