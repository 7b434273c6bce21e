use Rattle.std.proofs.Common.{◌≡◌, ◌+◌, length, map, drop}
use Rattle.text_pieces.specs.Behind.{ids_from}
use Rattle.text_pieces.specs.Chunks.{all_ids, shown}
use Rattle.text_pieces.proofs.table.PieceTable.count_from.Given as goal

abbrev pub invariant-loop-k : goal.invariant-loop-k
invariant-loop-k g l = let chunks = map shown l.self.chunks.items in l.count + length (all_ids (drop l.k chunks)) ≡ length (ids_from chunks l.chunk l.place)
