use Rattle.std.proofs.Common.{◌++◌, drop, map}
use Rattle.line_laws.specs.Lines.{SameThings}
use Rattle.followed_places.specs.Placed.{placed_view}
use Rattle.followed_places.specs.Places.{place_under}
use Rattle.followed_places.proofs.components.insert_all.Given as goal

abbrev pub invariant-loop-placed : goal.invariant-loop-placed
invariant-loop-placed g l =
    SameThings (map (λ p. place_under (placed_view p)) (drop l.placed-index l.components) ++ l.boxes) (map (λ p. place_under (placed_view p)) l.components ++ l.initial.boxes)
