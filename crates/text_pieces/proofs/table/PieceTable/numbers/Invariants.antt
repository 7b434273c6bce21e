use Rattle.std.proofs.Common.{◌≡◌, ◌++◌, drop, map}
use Rattle.text_pieces.specs.Chunks.{all_ids, shown}
use Rattle.text_pieces.proofs.table.PieceTable.numbers.Given as goal

abbrev pub invariant-loop-chunk : goal.invariant-loop-chunk
invariant-loop-chunk g l = l.ids.items ++ all_ids (map shown (drop l.chunk-index l.self.chunks.items)) ≡ all_ids (map shown l.self.chunks.items)
