use Rattle.std.proofs.Common.{ℕ, List, map, subst}
use Rattle.std.specs.Prelude.{option_map}
use Rattle.std.proofs.lemmas.Result.{err_from_is_err_and}
use Rattle.counted_devices.specs.Known.{WritesPart}
use Rattle.text_pieces.specs.Tables.{ids_of, kept, table_of}
use Rattle.text_pieces.proofs.JoinedPieces.{joined}
use Rattle.text_pieces.proofs.WritingSteps.{broke_before, on_err, part_on}
use Rattle.text_pieces.proofs.text.TextPieces.write_to.Goals as goal

pub returns-in_err-write_pieces-clause-err : goal.returns-in_err-write_pieces-clause-err
returns-in_err-write_pieces-clause-err g c =
    let p = err_from_is_err_and c.from_residual.result c.from_residual.ensures.1 in
    rw (p.1, ← c.self.view_is) (broke_before _ _ _ c.self.inside.tail.items c.in_err-write_pieces.ensures).part

pub returns-clause-err : goal.returns-clause-err
returns-clause-err g c =
    let pieces = joined (map (option_map kept) c.self.inside.table.pieces.slots) (ids_of (table_of c.self.inside.table)) in
    let tail = c.self.inside.tail.items in
    rw (← c.self.view_is) (on_err c.write_whole.result _ _
    (λ part. part_on (g.W.Write.contents c.args.out.now) (g.W.Write.contents c.write_pieces.new.out) (g.W.Write.contents c.write_whole.new.out) pieces tail c.in_ok-write_pieces.ensures.all
    (subst (λ (l : List ℕ). WritesPart (g.W.Write.contents c.write_pieces.new.out) (g.W.Write.contents c.write_whole.new.out) l) c.deref.ensures.value part))
    c.write_whole.ensures.err)
