use Rattle.std.proofs.Common.{map}
use Rattle.std.specs.Prelude.{option_map}
use Rattle.text_pieces.specs.Tables.{kept}
use Rattle.text_pieces.proofs.Shown.{is_there}
use Rattle.text_pieces.proofs.Slots.{held_at}
use Rattle.text_pieces.proofs.table.PieceTable.weight.Goals as goal

pub index-requires : goal.index-requires
index-requires g c =
    let slots = map (option_map kept) c.args.self.now.pieces.slots in
    is_there c.args.self.now.pieces.slots _ _ (held_at slots c.args.chunk c.args.ids.now c.loop-id.id-index _ c.requires.kept c.loop-id-test.true)
