use Rattle.std.proofs.Common.{List, ap, length, map, arith}
use Rattle.design_model.specs.declared.identifier.StmtId.{StmtId}
use Rattle.text_pieces.specs.Chunks.{shown}
use Rattle.text_pieces.proofs.FromPlaces.{few_from, many_from}
use Rattle.text_pieces.proofs.table.PieceTable.count_from.Goals as goal

pub overflow_add-count : goal.overflow_add-count
overflow_add-count g c =
    let cs = map shown c.args.self.now.chunks.items in
    let here = ap (λ (l : List StmtId). length l) c.ids_in-in-loop-k.ensures in
    omega (arith, here, many_from cs c.loop-k.k, few_from cs c.args.chunk c.args.place c.requires.inside, c.loop-k.invariant, c.requires.few)

pub loop-k-preserved : goal.loop-k-preserved
loop-k-preserved g c =
    let cs = map shown c.args.self.now.chunks.items in
    let here = ap (λ (l : List StmtId). length l) c.ids_in-in-loop-k.ensures in
    omega (arith, here, many_from cs c.loop-k.k, c.loop-k.invariant)
