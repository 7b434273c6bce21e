use Rattle.std.proofs.Common.{◌≡◌, ◌+◌, ◌-◌, ◌<◌, length, map, ap, arith}
use Rattle.std.specs.Prelude.{option_map}
use Rattle.design_model.specs.declared.identifier.StmtId.{StmtId}
use Rattle.text_pieces.specs.Tables.{Kept, kept}
use Rattle.text_pieces.proofs.NewWeights.{weight_one}
use Rattle.text_pieces.proofs.Shown.{is_there, kept_is}
use Rattle.text_pieces.proofs.Slots.{held_at}
use Rattle.text_pieces.proofs.TouchedPieces.{heavier}
use Rattle.text_pieces.proofs.table.PieceTable.first_from_end.Goals as goal

pub index-requires : goal.index-requires
index-requires g c =
    let slots = map (option_map kept) c.args.self.now.pieces.slots in
    let below : c.loop-i.i - 1 < length c.args.ids.now = omega (arith, c.loop-i.invariant.0, c.loop-i-test.true) in
    is_there c.args.self.now.pieces.slots _ _ (held_at slots c.args.chunk c.args.ids.now (c.loop-i.i - 1) _ c.requires.kept below)

pub overflow_sub-start : goal.overflow_sub-start
overflow_sub-start g c =
    let slots = map (option_map kept) c.args.self.now.pieces.slots in
    let ids = c.args.ids.now in
    let i = c.loop-i.i - 1 in
    let below : i < length ids = omega (arith, c.loop-i.invariant.0, c.loop-i-test.true) in
    let own = ap (λ (k : Kept). length k.bytes) (kept_is c.args.self.now.pieces.slots _ _ c.index.ensures) in
    let d : StmtId = record { 0 = 0 } in
    let next : i + 1 ≡ c.loop-i.i = omega (arith, c.loop-i-test.true) in
    let more = rw next at (heavier slots ids i d below) in
    omega (arith, own, more, c.len-start.ensures, c.loop-i.invariant.1)

pub loop-i-preserved : goal.loop-i-preserved
loop-i-preserved g c =
    let slots = map (option_map kept) c.args.self.now.pieces.slots in
    let ids = c.args.ids.now in
    let i = c.loop-i.i - 1 in
    let below : i < length ids = omega (arith, c.loop-i.invariant.0, c.loop-i-test.true) in
    let own = ap (λ (k : Kept). length k.bytes) (kept_is c.args.self.now.pieces.slots _ _ c.index.ensures) in
    let d : StmtId = record { 0 = 0 } in
    let next : i + 1 ≡ c.loop-i.i = omega (arith, c.loop-i-test.true) in
    let more = rw next at (heavier slots ids i d below) in
    let one = weight_one slots ids i d below in (
      omega (arith, below),
      omega (arith, own, more, c.len-start.ensures, c.loop-i.invariant.1),
      λ u. omega (arith, own, one, more, c.len-start.ensures, c.loop-i.invariant.1, c.if-pos-start.true),
    )
