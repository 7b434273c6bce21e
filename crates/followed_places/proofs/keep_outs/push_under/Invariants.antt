use Rattle.std.proofs.Common.{◌≡◌, ◌++◌, drop, map}
use Rattle.design_model.specs.Views.{rectangle_of}
use Rattle.statement_boxes.specs.Boxes.{box_view}
use Rattle.followed_places.proofs.keep_outs.push_under.Given as goal

abbrev pub invariant-loop-rect : goal.invariant-loop-rect
invariant-loop-rect g l = map box_view l.boxes.items ++ map (λ r. (l.id, r)) (map rectangle_of (drop l.rect-index l.rects)) ≡ map box_view l.initial.boxes.items ++ map (λ r. (l.id, r)) (map rectangle_of l.rects)
