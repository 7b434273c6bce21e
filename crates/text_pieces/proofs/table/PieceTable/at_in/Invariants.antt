use Rattle.std.proofs.Common.{◌≡◌, ◌+◌, drop, map}
use Rattle.std.specs.Prelude.{option_map}
use Rattle.text_pieces.specs.Tables.{kept, piece_at, weight}
use Rattle.text_pieces.proofs.table.PieceTable.at_in.Given as goal

abbrev pub invariant-loop-id : goal.invariant-loop-id
invariant-loop-id g l =
    let slots = map (option_map kept) l.self.pieces.slots in
    (l.start + weight slots (drop l.id-index l.ids) ≡ l.from + weight slots l.ids) × (piece_at slots l.start l.pos (drop l.id-index l.ids) ≡ piece_at slots l.from l.pos l.ids)
