use Rattle.std.proofs.Common.{◌≡◌, ◌<◌, map, take}
use Rattle.std.specs.Prelude.{option_map}
use Rattle.text_pieces.specs.Chunks.{all_ids, shown}
use Rattle.text_pieces.specs.Tables.{kept, weight}
use Rattle.text_pieces.proofs.table.PieceTable.chunk_touched.Given as goal

abbrev pub invariant-loop-k : goal.invariant-loop-k
invariant-loop-k g l = (l.start ≡ weight (map (option_map kept) l.self.pieces.slots) (all_ids (take l.k (map shown l.self.chunks.items)))) × (0 < l.k → l.start < l.pos)
