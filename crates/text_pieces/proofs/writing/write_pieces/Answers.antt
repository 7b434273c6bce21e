use Rattle.std.proofs.Common.{◌+◌, ◌++◌, ◌∙◌, ℕ, List, sym, ap, map, take, drop, subst}
use Rattle.std.specs.Prelude.{option_map}
use Rattle.std.proofs.lemmas.Result.{err_from_is_err_and}
use Rattle.text_pieces.specs.Chunks.{all_ids, ids_at, shown}
use Rattle.text_pieces.specs.Tables.{kept}
use Rattle.text_pieces.specs.Writing.{BreaksOff, Writer, WritesAll}
use Rattle.text_pieces.proofs.JoinedPieces.{joined, joined_chunk, joined_cut}
use Rattle.text_pieces.proofs.NewWeights.{home_in}
use Rattle.text_pieces.proofs.WritingSteps.{broke_before, broke_on, wrote_on}
use Rattle.text_pieces.proofs.writing.write_pieces.Goals as goal

pub write_ids-requires-clause-kept : goal.write_ids-requires-clause-kept
write_ids-requires-clause-kept g c =
    let slots = map (option_map kept) c.args.table.now.pieces.slots in
    let cs = map shown c.args.table.now.chunks.items in
    let k = c.loop-k.k in
    let below = rw c.chunk_count-k-end.ensures at c.loop-k-test.true in
    rw c.ids_in.ensures (home_in slots cs k c.requires.table below)

pub returns-in_err-write_ids : goal.returns-in_err-write_ids
returns-in_err-write_ids g c =
    let slots = map (option_map kept) c.args.table.now.pieces.slots in
    let cs = map shown c.args.table.now.chunks.items in
    let k = c.loop-k.k in
    let below = rw c.chunk_count-k-end.ensures at c.loop-k-test.true in
    let a : Writer = record { contents = g.W.Write.contents c.args.out.now; hard = g.W.Failures.failed_hard c.args.out.now; failed = g.W.Failures.failed c.args.out.now; patience = c.args.patience.now } in
    let b : Writer = record { contents = g.W.Write.contents c.loop-k.out; hard = g.W.Failures.failed_hard c.loop-k.out; failed = g.W.Failures.failed c.loop-k.out; patience = c.loop-k.patience } in
    let d : Writer = record { contents = g.W.Write.contents c.write_ids.new.out; hard = g.W.Failures.failed_hard c.write_ids.new.out; failed = g.W.Failures.failed c.write_ids.new.out; patience = c.write_ids.new.patience } in
    let own = ap (joined slots) c.ids_in.ensures in
    let more = joined_chunk slots cs k below in
    let here = subst (λ (l : List ℕ). BreaksOff b d l) own c.in_err-write_ids.ensures in
    let rest = joined slots (all_ids (drop (k + 1) cs)) in
    let front = broke_on a b d (joined slots (all_ids (take k cs))) (joined slots (ids_at cs k)) c.loop-k.invariant here in
    let all = joined_cut slots cs (k + 1) ∙ ap (λ (l : List ℕ). l ++ rest) more in
    let p = err_from_is_err_and c.from_residual.result c.from_residual.ensures.1 in
    rw p.1 (subst (λ (l : List ℕ). BreaksOff a d l) (sym all) (broke_before a d _ rest front))

pub loop-k-preserved : goal.loop-k-preserved
loop-k-preserved g c =
    let slots = map (option_map kept) c.args.table.now.pieces.slots in
    let cs = map shown c.args.table.now.chunks.items in
    let k = c.loop-k.k in
    let below = rw c.chunk_count-k-end.ensures at c.loop-k-test.true in
    let a : Writer = record { contents = g.W.Write.contents c.args.out.now; hard = g.W.Failures.failed_hard c.args.out.now; failed = g.W.Failures.failed c.args.out.now; patience = c.args.patience.now } in
    let b : Writer = record { contents = g.W.Write.contents c.loop-k.out; hard = g.W.Failures.failed_hard c.loop-k.out; failed = g.W.Failures.failed c.loop-k.out; patience = c.loop-k.patience } in
    let d : Writer = record { contents = g.W.Write.contents c.write_ids.new.out; hard = g.W.Failures.failed_hard c.write_ids.new.out; failed = g.W.Failures.failed c.write_ids.new.out; patience = c.write_ids.new.patience } in
    let own = ap (joined slots) c.ids_in.ensures in
    let more = joined_chunk slots cs k below in
    let here = subst (λ (l : List ℕ). WritesAll b d l) own c.in_ok-write_ids.ensures in
    subst (λ (l : List ℕ). WritesAll a d l) (sym more) (wrote_on a b d (joined slots (all_ids (take k cs))) (joined slots (ids_at cs k)) c.loop-k.invariant here)
