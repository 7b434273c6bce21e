use Rattle.std.proofs.Common.{◌≡◌, ◌<◌, ◌+◌, ◌-◌, ◌∙◌, sym, length, map, arith}
use Rattle.text_pieces.specs.Chunks.{shown}
use Rattle.text_pieces.proofs.Ids.{last_found, last_none}
use Rattle.text_pieces.proofs.table.PieceTable.last_before.Goals as goal

pub returns-then-ids-gt0 : goal.returns-then-ids-gt0
returns-then-ids-gt0 g c =
    let cs = map shown c.args.self.now.chunks.items in
    let k = c.loop-k.k - 1 in
    let below : k < length cs = omega (arith, c.loop-k.invariant.0, c.loop-k-test.true) in
    let up : k + 1 ≡ c.loop-k.k = omega (arith, c.loop-k-test.true) in
    sym (rw up at (last_found cs k c.ids_in-ids.result.now (record { 0 = 0 }) below c.ids_in-ids.ensures c.if-ids-gt0.true)) ∙ c.loop-k.invariant.1

pub loop-k-preserved : goal.loop-k-preserved
loop-k-preserved g c =
    let cs = map shown c.args.self.now.chunks.items in
    let k = c.loop-k.k - 1 in
    let below : k < length cs = omega (arith, c.loop-k.invariant.0, c.loop-k-test.true) in
    let up : k + 1 ≡ c.loop-k.k = omega (arith, c.loop-k-test.true) in
    (omega (arith, c.loop-k.invariant.0), sym (rw up at (last_none cs k c.ids_in-ids.result.now below c.ids_in-ids.ensures c.if-ids-gt0.false)) ∙ c.loop-k.invariant.1)
