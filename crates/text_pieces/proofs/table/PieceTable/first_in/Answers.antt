use Rattle.std.proofs.Common.{◌+◌, length, map, ap, arith}
use Rattle.std.specs.Prelude.{option_map}
use Rattle.design_model.specs.declared.identifier.StmtId.{StmtId}
use Rattle.text_pieces.specs.Tables.{Kept, kept}
use Rattle.text_pieces.proofs.Shown.{is_there, kept_is}
use Rattle.text_pieces.proofs.Slots.{held_at}
use Rattle.text_pieces.proofs.TouchedPieces.{heavier}
use Rattle.text_pieces.proofs.Weights.{weight_within}
use Rattle.text_pieces.proofs.table.PieceTable.first_in.Goals as goal

pub index-requires : goal.index-requires
index-requires g c =
    let slots = map (option_map kept) c.args.self.now.pieces.slots in
    is_there c.args.self.now.pieces.slots _ _ (held_at slots c.args.chunk c.args.ids.now c.loop-i.i _ c.requires.kept c.loop-i-test.true)

pub overflow_add-end : goal.overflow_add-end
overflow_add-end g c =
    let slots = map (option_map kept) c.args.self.now.pieces.slots in
    let ids = c.args.ids.now in
    let i = c.loop-i.i in
    let own = ap (λ (k : Kept). length k.bytes) (kept_is c.args.self.now.pieces.slots _ _ c.index.ensures) in
    let d : StmtId = record { 0 = 0 } in
    let more = heavier slots ids i d c.loop-i-test.true in
    omega (arith, own, more, weight_within slots ids (i + 1), c.len.ensures, c.loop-i.invariant.0, c.requires.fits)

pub loop-i-preserved : goal.loop-i-preserved
loop-i-preserved g c =
    let slots = map (option_map kept) c.args.self.now.pieces.slots in
    let ids = c.args.ids.now in
    let i = c.loop-i.i in
    let own = ap (λ (k : Kept). length k.bytes) (kept_is c.args.self.now.pieces.slots _ _ c.index.ensures) in
    let d : StmtId = record { 0 = 0 } in
    let more = heavier slots ids i d c.loop-i-test.true in
    (omega (arith, own, more, c.len.ensures, c.loop-i.invariant.0), λ u. c.if-pos-end.false)
