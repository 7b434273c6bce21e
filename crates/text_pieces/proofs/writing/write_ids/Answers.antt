use Rattle.std.proofs.Common.{◌≡◌, ◌+◌, ◌++◌, ◌∙◌, ℕ, List, sym, ap, get_or, map, take, drop, subst}
use Rattle.std.specs.Prelude.{option_map}
use Rattle.std.proofs.lemmas.Result.{err_from_is_err_and}
use Rattle.text_pieces.specs.Tables.{Kept, kept, kept_at}
use Rattle.text_pieces.specs.Writing.{BreaksOff, Writer, WritesAll}
use Rattle.text_pieces.proofs.JoinedPieces.{joined, joined_more, joined_split}
use Rattle.text_pieces.proofs.Shown.{is_there, kept_is}
use Rattle.text_pieces.proofs.Slots.{held_at}
use Rattle.text_pieces.proofs.WritingSteps.{broke_before, broke_on, wrote_on}
use Rattle.text_pieces.proofs.writing.write_ids.Goals as goal

pub index-requires : goal.index-requires
index-requires g c =
    let slots = map (option_map kept) c.args.table.now.pieces.slots in
    is_there c.args.table.now.pieces.slots _ _ (held_at slots c.args.chunk c.args.ids.now c.loop-id.id-index _ c.requires.kept c.loop-id-test.true)

pub returns-in_err-write_whole : goal.returns-in_err-write_whole
returns-in_err-write_whole g c =
    let slots = map (option_map kept) c.args.table.now.pieces.slots in
    let ids = c.args.ids.now in
    let i = c.loop-id.id-index in
    let id = get_or ids i (record { 0 = 0 }) in
    let a : Writer = record { contents = g.W.Write.contents c.args.out.now; hard = g.W.Failures.failed_hard c.args.out.now; failed = g.W.Failures.failed c.args.out.now; patience = c.args.patience.now } in
    let b : Writer = record { contents = g.W.Write.contents c.loop-id.out; hard = g.W.Failures.failed_hard c.loop-id.out; failed = g.W.Failures.failed c.loop-id.out; patience = c.loop-id.patience } in
    let d : Writer = record { contents = g.W.Write.contents c.write_whole.new.out; hard = g.W.Failures.failed_hard c.write_whole.new.out; failed = g.W.Failures.failed c.write_whole.new.out; patience = c.write_whole.new.patience } in
    let own : c.as_slice.result.now ≡ (kept_at slots id).bytes = c.as_slice.ensures ∙ ap (λ (k : Kept). k.bytes) (sym (kept_is c.args.table.now.pieces.slots id _ c.index.ensures)) in
    let more = joined_more slots ids i _ c.loop-id-test.true in
    let e = c.in_err-write_whole.ensures in
    let broke : BreaksOff b d c.as_slice.result.now = record { part = e.err; fails = e.failed; spent = e.spent } in
    let here = subst (λ (l : List ℕ). BreaksOff b d l) own broke in
    let front = broke_on a b d (joined slots (take i ids)) (kept_at slots id).bytes c.loop-id.invariant here in
    let all : joined slots ids ≡ (joined slots (take i ids) ++ (kept_at slots id).bytes) ++ joined slots (drop (i + 1) ids) = joined_split slots ids (i + 1) ∙ ap (λ (l : List ℕ). l ++ joined slots (drop (i + 1) ids)) more in
    let p = err_from_is_err_and c.from_residual.result c.from_residual.ensures.1 in
    rw p.1 (subst (λ (l : List ℕ). BreaksOff a d l) (sym all) (broke_before a d _ (joined slots (drop (i + 1) ids)) front))

pub loop-id-preserved : goal.loop-id-preserved
loop-id-preserved g c =
    let slots = map (option_map kept) c.args.table.now.pieces.slots in
    let ids = c.args.ids.now in
    let i = c.loop-id.id-index in
    let id = get_or ids i (record { 0 = 0 }) in
    let a : Writer = record { contents = g.W.Write.contents c.args.out.now; hard = g.W.Failures.failed_hard c.args.out.now; failed = g.W.Failures.failed c.args.out.now; patience = c.args.patience.now } in
    let b : Writer = record { contents = g.W.Write.contents c.loop-id.out; hard = g.W.Failures.failed_hard c.loop-id.out; failed = g.W.Failures.failed c.loop-id.out; patience = c.loop-id.patience } in
    let d : Writer = record { contents = g.W.Write.contents c.write_whole.new.out; hard = g.W.Failures.failed_hard c.write_whole.new.out; failed = g.W.Failures.failed c.write_whole.new.out; patience = c.write_whole.new.patience } in
    let own : c.as_slice.result.now ≡ (kept_at slots id).bytes = c.as_slice.ensures ∙ ap (λ (k : Kept). k.bytes) (sym (kept_is c.args.table.now.pieces.slots id _ c.index.ensures)) in
    let more = joined_more slots ids i _ c.loop-id-test.true in
    let e = c.in_ok-write_whole.ensures in
    let wrote : WritesAll b d c.as_slice.result.now = record { all = e.ok; hard = e.hard_ok; rises = e.rises; spent = e.spent_ok } in
    let here = subst (λ (l : List ℕ). WritesAll b d l) own wrote in
    subst (λ (l : List ℕ). WritesAll a d l) (sym more) (wrote_on a b d (joined slots (take i ids)) (kept_at slots id).bytes c.loop-id.invariant here)
