use Rattle.std.proofs.Common.{◌≡◌, ◌++◌, drop, map}
use Rattle.place_checks.specs.Views.{boxed_view}
use Rattle.followed_places.specs.Placed.{component_of}
use Rattle.followed_places.proofs.own_lines.push_components.Given as goal

abbrev pub invariant-loop-placed : goal.invariant-loop-placed
invariant-loop-placed g l = map boxed_view l.boxes.items ++ map component_of (drop l.placed-index l.components) ≡ map boxed_view l.initial.boxes.items ++ map component_of l.components
