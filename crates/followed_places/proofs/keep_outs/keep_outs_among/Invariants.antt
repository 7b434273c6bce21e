use Rattle.std.proofs.Common.{◌≡◌, ◌++◌, drop, map}
use Rattle.design_tables.specs.TableViews.{numbered_view}
use Rattle.statement_boxes.specs.Boxes.{box_view}
use Rattle.followed_places.specs.Places.{keep_outs_under}
use Rattle.followed_places.proofs.keep_outs.keep_outs_among.Given as goal

abbrev pub invariant-loop-numbered : goal.invariant-loop-numbered
invariant-loop-numbered g l = map box_view l.boxes.items ++ keep_outs_under (map numbered_view (drop l.numbered-index l.statements)) ≡ keep_outs_under (map numbered_view l.statements)
