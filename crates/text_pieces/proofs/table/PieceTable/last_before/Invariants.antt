use Rattle.std.proofs.Common.{◌≡◌, ◌≤◌, take, map, length}
use Rattle.text_pieces.specs.Chunks.{all_ids, last_id, shown}
use Rattle.text_pieces.proofs.table.PieceTable.last_before.Given as goal

abbrev pub invariant-loop-k : goal.invariant-loop-k
invariant-loop-k g l = let cs = map shown l.self.chunks.items in (l.k ≤ length cs) × (last_id (all_ids (take l.k cs)) ≡ last_id (all_ids (take l.end cs)))

abbrev pub decreases-loop-k : goal.decreases-loop-k
decreases-loop-k g l = l.k
