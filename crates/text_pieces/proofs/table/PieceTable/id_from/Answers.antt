use Rattle.std.proofs.Common.{◌∙◌, sym, map, arith}
use Rattle.text_pieces.specs.Chunks.{shown}
use Rattle.text_pieces.proofs.FromPlaces.{passed_from}
use Rattle.text_pieces.proofs.table.PieceTable.id_from.Goals as goal

pub loop-k-preserved : goal.loop-k-preserved
loop-k-preserved g c =
    let cs = map shown c.args.self.now.chunks.items in
    (omega arith, sym (passed_from cs c.loop-k.k c.loop-k.place c.loop-k.left c.ids_in-ids.result.now c.ids_in-ids.ensures c.if-left-ids.false) ∙ c.loop-k.invariant.1)
