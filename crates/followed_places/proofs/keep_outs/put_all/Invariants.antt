use Rattle.std.proofs.Common.{◌++◌, drop, map}
use Rattle.line_laws.specs.Lines.{SameThings}
use Rattle.statement_boxes.specs.Boxes.{box_view}
use Rattle.followed_places.proofs.keep_outs.put_all.Given as goal

abbrev pub invariant-loop-put : goal.invariant-loop-put
invariant-loop-put g l = SameThings (map box_view (drop l.put-index l.came) ++ l.keep_outs) (map box_view l.came ++ l.initial.keep_outs)
