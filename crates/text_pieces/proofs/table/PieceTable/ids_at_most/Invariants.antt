use Rattle.std.proofs.Common.{◌≡◌, map, take}
use Rattle.text_pieces.specs.Behind.{ids_from}
use Rattle.text_pieces.specs.Chunks.{shown}
use Rattle.text_pieces.proofs.table.PieceTable.ids_at_most.Given as goal

abbrev pub invariant-loop-k : goal.invariant-loop-k
invariant-loop-k g l = l.ids.items ≡ take l.k (ids_from (map shown l.self.chunks.items) l.chunk l.place)
