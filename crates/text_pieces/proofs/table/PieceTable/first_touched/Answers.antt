use Rattle.std.proofs.Common.{map, refl}
use Rattle.std.specs.Prelude.{option_map}
use Rattle.text_pieces.specs.Chunks.{shown}
use Rattle.text_pieces.specs.Tables.{kept}
use Rattle.text_pieces.proofs.TouchedPieces.{begins}
use Rattle.text_pieces.proofs.table.PieceTable.first_touched.Goals as goal

pub returns : goal.returns
returns g c =
    let slots = map (option_map kept) c.args.self.now.pieces.slots in
    let cs = map shown c.args.self.now.chunks.items in
    let k = c.chunk_touched-chunk.result.0 in
    let t = c.chunk_touched-chunk.ensures in
    let i = c.first_near-index.ensures in
    begins slots cs c.args.pos k c.first_near-index.result.0 c.chunk_touched-chunk.result.1 c.first_near-index.result.1 _ t.within refl t.start t.low t.high i.inside i.start i.low i.high
