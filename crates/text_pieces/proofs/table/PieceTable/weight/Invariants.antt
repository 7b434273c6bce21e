use Rattle.std.proofs.Common.{◌≡◌, ◌+◌, drop, map}
use Rattle.std.specs.Prelude.{option_map}
use Rattle.text_pieces.specs.Tables.{kept, weight}
use Rattle.text_pieces.proofs.table.PieceTable.weight.Given as goal

abbrev pub invariant-loop-id : goal.invariant-loop-id
invariant-loop-id g l = let slots = map (option_map kept) l.self.pieces.slots in l.sum + weight slots (drop l.id-index l.ids) ≡ weight slots l.ids
