use Rattle.std.proofs.Common.{◌++◌, drop, map}
use Rattle.line_laws.specs.Lines.{SameThings}
use Rattle.statement_boxes.specs.Boxes.{box_view}
use Rattle.followed_places.proofs.keep_outs.take_all.Given as goal

abbrev pub invariant-loop-gone : goal.invariant-loop-gone
invariant-loop-gone g l = SameThings (map box_view (drop l.gone-index l.went) ++ l.initial.keep_outs) (map box_view l.went ++ l.keep_outs)
