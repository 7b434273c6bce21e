use Rattle.std.proofs.Common.{◌∙◌, sym, ap, map, arith}
use Rattle.std.specs.Prelude.{option_map}
use Rattle.text_pieces.specs.Chunks.{shown}
use Rattle.text_pieces.specs.Tables.{kept, piece_at}
use Rattle.text_pieces.proofs.NewWeights.{home_in}
use Rattle.text_pieces.proofs.Weights.{chunk_passed, chunk_reached}
use Rattle.text_pieces.proofs.table.PieceTable.at.Goals as goal

pub overflow_add-end : goal.overflow_add-end
overflow_add-end g c = omega (arith, c.bytes_in.ensures.fits, c.loop-k.invariant.0)

pub at_in-requires-clause-kept : goal.at_in-requires-clause-kept
at_in-requires-clause-kept g c =
    let slots = map (option_map kept) c.args.self.now.pieces.slots in
    let cs = map shown c.args.self.now.chunks.items in
    rw c.ids_in.ensures (home_in slots cs c.loop-k.k c.requires (rw c.chunk_count-k-end.ensures at c.loop-k-test.true))

pub at_in-requires-clause-fits : goal.at_in-requires-clause-fits
at_in-requires-clause-fits g c = rw c.ids_in.ensures (omega (arith, c.bytes_in.ensures.is, c.bytes_in.ensures.fits, c.loop-k.invariant.0))

pub returns-then-pos-end : goal.returns-then-pos-end
returns-then-pos-end g c =
    let slots = map (option_map kept) c.args.self.now.pieces.slots in
    let cs = map shown c.args.self.now.chunks.items in
    let below = rw c.chunk_count-k-end.ensures at c.loop-k-test.true in
    let there = chunk_reached slots cs c.loop-k.k c.loop-k.start c.args.pos _ below c.bytes_in.ensures.is c.if-pos-end.true c.loop-k.invariant.1 in
    c.at_in.ensures ∙ ap (piece_at slots c.loop-k.start c.args.pos) c.ids_in.ensures ∙ sym there ∙ c.loop-k.invariant.2

pub loop-k-preserved : goal.loop-k-preserved
loop-k-preserved g c =
    let slots = map (option_map kept) c.args.self.now.pieces.slots in
    let cs = map shown c.args.self.now.chunks.items in
    let below = rw c.chunk_count-k-end.ensures at c.loop-k-test.true in
    let past = chunk_passed slots cs c.loop-k.k c.loop-k.start c.args.pos _ below c.bytes_in.ensures.is c.if-pos-end.false in
    (omega (arith, c.bytes_in.ensures.more, c.loop-k.invariant.0), c.if-pos-end.false, sym past ∙ c.loop-k.invariant.2)
