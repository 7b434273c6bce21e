use Rattle.std.proofs.Common.{◌≤◌, ◌+◌, ◌-◌, ◌^◌, List, ◌++◌, drop, map, min}
use Rattle.design_model.specs.declared.identifier.StmtId.{StmtId}
use Rattle.line_laws.specs.Lines.{SameLines}
use Rattle.statement_boxes.specs.Boxes.{box_view}
use Rattle.followed_places.specs.Lines.{AreBoxesOf, boxed_under}
use Rattle.followed_places.specs.Tests.{met_sum, near_sum}
use Rattle.followed_places.proofs.BlockedLemmas.{rects_of, turned}
use Rattle.followed_places.proofs.blocked_lines.blocked_near.Given as goal

abbrev pub invariant-loop-keep_out : goal.invariant-loop-keep_out
invariant-loop-keep_out g l = record {
  lines : (ids : List StmtId) → AreBoxesOf l.library l.scale l.text.pieces.table.slots ids l.boxes
      → SameLines (l.lines ++ turned (rects_of (drop l.keep_out-index l.keep_outs)) (boxed_under l.library l.scale l.text.pieces.table.slots ids))
      (l.initial.lines ++ turned (rects_of l.keep_outs) (boxed_under l.library l.scale l.text.pieces.table.slots ids));
  tests : l.tests + near_sum l.boxes (map box_view (drop l.keep_out-index l.keep_outs)) ≤ l.initial.tests + near_sum l.boxes (map box_view l.keep_outs);
  least : min (l.initial.tests + met_sum l.boxes (map box_view l.keep_outs)) (2 ^ 64 - 1) ≤ l.tests + met_sum l.boxes (map box_view (drop l.keep_out-index l.keep_outs));
}
