use Rattle.std.proofs.Common.{◌≡◌, ◌++◌, drop, flat_map, map}
use Rattle.design_model.specs.Views.{rectangle_of}
use Rattle.design_rules.specs.PlaceLines.{blocked_of}
use Rattle.place_checks.specs.Views.{boxed_view}
use Rattle.place_checks.proofs.blocked.put_blockage.Given as goal

abbrev pub invariant-loop-component : goal.invariant-loop-component
invariant-loop-component g l =
    l.lines ++ flat_map (λ c. blocked_of c (rectangle_of l.rect)) (map boxed_view (drop l.component-index l.components))
    ≡ l.initial.lines ++ flat_map (λ c. blocked_of c (rectangle_of l.rect)) (map boxed_view l.components)
