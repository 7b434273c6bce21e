use Rattle.std.proofs.Common.{◌≡◌, ◌++◌, drop, filter, map}
use Rattle.std.specs.Prelude.{int_lt}
use Rattle.place_checks.specs.Views.{swept_view}
use Rattle.followed_places.proofs.halves.reaching.Given as goal

abbrev pub invariant-loop-swept : goal.invariant-loop-swept
invariant-loop-swept g l =
    map swept_view l.found.items ++ filter (λ b. int_lt l.ordinate b.box.y2) (map swept_view (drop l.swept-index l.boxes))
    ≡ filter (λ b. int_lt l.ordinate b.box.y2) (map swept_view l.boxes)
