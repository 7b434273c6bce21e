use Rattle.std.proofs.Common.{◌≡◌, ◌++◌, drop, filter, map}
use Rattle.place_checks.specs.Views.{boxed_view}
use Rattle.followed_places.specs.Halves.{is_in}
use Rattle.followed_places.proofs.halves.components_in.Given as goal

abbrev pub invariant-loop-component : goal.invariant-loop-component
invariant-loop-component g l =
    map boxed_view l.found.items ++ filter (is_in l.half) (map boxed_view (drop l.component-index l.component-items))
    ≡ filter (is_in l.half) (map boxed_view l.component-items)
