use Rattle.std.proofs.Common.{arith, refl, ◌∙◌}
use Rattle.design_model.specs.declared.mode.Mode.TheVariants.{Top}
use Rattle.rereading.proofs.Ends.{counted_more}
use Rattle.rereading.proofs.Going.{going_fault, going_start}
use Rattle.rereading.proofs.WholeTexts.{pushed, whole_text}
use Rattle.rereading.proofs.read_pieces.read_pieces.Goals as goal

pub statements-init : goal.statements-init
statements-init g c = record {
  pos = omega arith;
  few = omega arith;
  counted = rw c.new-pieces.ensures.items refl;
  going = rw c.new-pieces.ensures.items (going_start Top c.args.text.now);
}

pub returns-in-Err : goal.returns-in-Err
returns-in-Err g c =
    let s = c.statements in
    going_fault Top s.mode c.args.text.now s.pieces.items s.pos s.invariant.going c.pieces_are_read.ensures c.in-Err.fault c.in-Err.ensures.found

pub statements-preserved : goal.statements-preserved
statements-preserved g c =
    let s = c.statements in
    let i = s.invariant in
    let x = c.in-Ok-Some in
    let text = c.args.text.now in
    let piece = rw x.field-0-is at x.ensures.found in
    let counts = rw x.field-0-is at x.ensures.counts in
    let put = c.in_ok-push_piece-in-Ok-Some.ensures in
    record {
      pos = piece.1;
      few = omega (arith, i.few, counts, piece.0);
      counted = counted_more s.pieces.items c.push_piece.new.pieces.items put.0 s.reads c.next_piece.new.reads put.1 i.counted counts;
      going = rw put.1 (pushed text c.chains_join.ensures c.chains_lead.ensures c.modes_join.ensures c.apart_joins.ensures s.pos x.end s.mode x.after s.pieces.items put.0 piece put.2 put.3 i.going);
    }

pub returns : goal.returns
returns g c =
    let s = c.statements in
    let i = s.invariant in
    let x = c.in-Ok-None in
    let none = rw x.field-0-is at x.ensures.found in
    let counts = rw x.field-0-is at x.ensures.counts in
    whole_text c.args.text.now c.tails_are_found.ensures c.tails_may_end.ensures s.pos s.mode _ i.going none (counts ∙ i.counted) c.in_ok-from_slice.ensures.items
