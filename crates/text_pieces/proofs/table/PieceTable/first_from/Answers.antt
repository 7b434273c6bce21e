use Rattle.std.proofs.Common.{◌∙◌, sym, map}
use Rattle.text_pieces.specs.Chunks.{shown}
use Rattle.text_pieces.proofs.Ids.{first_found, first_none}
use Rattle.text_pieces.proofs.table.PieceTable.first_from.Goals as goal

pub returns-then-ids-gt0 : goal.returns-then-ids-gt0
returns-then-ids-gt0 g c =
    let cs = map shown c.args.self.now.chunks.items in
    let below = rw c.chunk_count-k-end.ensures at c.loop-k-test.true in
    sym (first_found cs c.loop-k.k c.ids_in-ids.result.now _ below c.ids_in-ids.ensures c.if-ids-gt0.true) ∙ c.loop-k.invariant

pub loop-k-preserved : goal.loop-k-preserved
loop-k-preserved g c =
    let cs = map shown c.args.self.now.chunks.items in
    let below = rw c.chunk_count-k-end.ensures at c.loop-k-test.true in
    sym (first_none cs c.loop-k.k c.ids_in-ids.result.now below c.ids_in-ids.ensures c.if-ids-gt0.false) ∙ c.loop-k.invariant
