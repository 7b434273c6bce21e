use Rattle.std.proofs.Common.{◌≡◌, ◌++◌, drop, map}
use Rattle.design_model.specs.Views.{rectangle_of}
use Rattle.design_model.specs.Families.{cross_lines}
use Rattle.design_rules.specs.PlaceLines.{blocked_of}
use Rattle.place_checks.specs.Views.{swept_view}
use Rattle.place_checks.proofs.blocked.blocked_of.Given as goal

abbrev pub invariant-loop-rect : goal.invariant-loop-rect
invariant-loop-rect g l =
    l.lines ++ cross_lines (λ x c. blocked_of c x) (map rectangle_of (drop l.rect-index l.keep_outs)) (map swept_view l.boxes)
    ≡ l.initial.lines ++ cross_lines (λ x c. blocked_of c x) (map rectangle_of l.keep_outs) (map swept_view l.boxes)
