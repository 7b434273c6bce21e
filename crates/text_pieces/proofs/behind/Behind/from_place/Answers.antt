use Rattle.std.proofs.Common.{List, length, map, ap, arith, length-append}
use Rattle.design_model.specs.declared.identifier.StmtId.{StmtId}
use Rattle.text_pieces.specs.Behind.{ids_from}
use Rattle.text_pieces.specs.Chunks.{shown}
use Rattle.text_pieces.proofs.FromPlaces.{parted_at}
use Rattle.text_pieces.proofs.behind.Behind.from_place.Goals as goal

pub invariant_of-result : goal.invariant_of-result
invariant_of-result g c =
    let cs = map shown c.args.table.now.chunks.items in
    let p = parted_at cs c.args.chunk c.args.place c.requires.inside in
    let all = ap (λ (l : List StmtId). length l) p.1 in
    (c.requires.table, c.requires.inside, c.count_from.ensures, omega (arith, all, c.count_from.ensures, c.requires.few, length-append p.0 (ids_from cs c.args.chunk c.args.place)), omega arith)
