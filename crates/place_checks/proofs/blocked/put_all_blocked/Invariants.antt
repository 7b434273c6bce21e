use Rattle.std.proofs.Common.{◌≡◌, ◌++◌, drop, flat_map, map}
use Rattle.design_model.specs.Views.{rectangle_of}
use Rattle.design_rules.specs.PlaceLines.{blocked_of}
use Rattle.place_checks.specs.Views.{swept_view}
use Rattle.place_checks.proofs.blocked.put_all_blocked.Given as goal

abbrev pub invariant-loop-swept : goal.invariant-loop-swept
invariant-loop-swept g l =
    l.lines ++ flat_map (λ c. blocked_of c (rectangle_of l.rect)) (map swept_view (drop l.swept-index l.boxes))
    ≡ l.initial.lines ++ flat_map (λ c. blocked_of c (rectangle_of l.rect)) (map swept_view l.boxes)
