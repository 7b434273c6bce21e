use Rattle.std.proofs.Common.{◌≡◌, ◌≤◌, take, drop, map}
use Rattle.std.specs.Prelude.{option_map}
use Rattle.text_pieces.specs.Chunks.{all_ids, shown}
use Rattle.text_pieces.specs.Tables.{kept, piece_at, weight}
use Rattle.text_pieces.proofs.table.PieceTable.at.Given as goal

abbrev pub invariant-loop-k : goal.invariant-loop-k
invariant-loop-k g l =
    let slots = map (option_map kept) l.self.pieces.slots in
    let chunks = map shown l.self.chunks.items in
    (l.start ≡ weight slots (all_ids (take l.k chunks))) × (l.start ≤ l.pos) × (piece_at slots l.start l.pos (all_ids (drop l.k chunks)) ≡ piece_at slots 0 l.pos (all_ids chunks))
