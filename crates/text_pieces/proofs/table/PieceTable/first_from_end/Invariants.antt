use Rattle.std.proofs.Common.{◌≡◌, ◌<◌, ◌≤◌, ◌+◌, length, map, take, drop}
use Rattle.std.specs.Prelude.{option_map}
use Rattle.text_pieces.specs.Tables.{kept, weight}
use Rattle.text_pieces.proofs.table.PieceTable.first_from_end.Given as goal

abbrev pub invariant-loop-i : goal.invariant-loop-i
invariant-loop-i g l =
    let slots = map (option_map kept) l.self.pieces.slots in
    (l.i ≤ length l.ids)
    × (l.start ≡ l.from + weight slots (take l.i l.ids))
    × (l.i < length l.ids → l.pos ≤ l.start + weight slots (take 1 (drop l.i l.ids)))

abbrev pub decreases-loop-i : goal.decreases-loop-i
decreases-loop-i g l = l.i
