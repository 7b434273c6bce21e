use Rattle.std.proofs.Common.{◌≡◌, ◌++◌, drop, map}
use Rattle.place_checks.specs.Views.{bare, boxed_view, swept_view}
use Rattle.place_checks.proofs.place_lines.push_swept.Given as goal

abbrev pub invariant-loop-component : goal.invariant-loop-component
invariant-loop-component g l =
    map swept_view l.boxes.items ++ map bare (map boxed_view (drop l.component-index l.components))
    ≡ map swept_view l.initial.boxes.items ++ map bare (map boxed_view l.components)
