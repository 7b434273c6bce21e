use Rattle.std.proofs.Common.{◌≡◌, ◌<◌, ◌+◌, map, take}
use Rattle.std.specs.Prelude.{option_map}
use Rattle.text_pieces.specs.Tables.{kept, weight}
use Rattle.text_pieces.proofs.table.PieceTable.first_in.Given as goal

abbrev pub invariant-loop-i : goal.invariant-loop-i
invariant-loop-i g l = (l.start ≡ l.from + weight (map (option_map kept) l.self.pieces.slots) (take l.i l.ids)) × (0 < l.i → l.start < l.pos)
