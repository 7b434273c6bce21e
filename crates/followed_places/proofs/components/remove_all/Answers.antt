use Rattle.std.proofs.Common.{rules, ◌∷◌}
use Rattle.line_laws.specs.Lines.{SameThings}
use Rattle.followed_places.specs.declared.components.Placed.{Placed}
use Rattle.followed_places.specs.Placed.{placed_view}
use Rattle.followed_places.specs.Places.{place_under}
use Rattle.followed_places.proofs.ComponentLemmas.{taken_at}
use Rattle.followed_places.proofs.components.remove_all.Goals as goal

pub loop-placed-preserved : goal.loop-placed-preserved
loop-placed-preserved g c =
    let now : SameThings c.loop-placed.boxes (place_under (placed_view c.placed-item.result) ∷ c.remove.new.self) = search rules in
    taken_at (λ (p : Placed). place_under (placed_view p)) _ _ c.placed-item.result _ _ _ _ c.loop-placed-test.true c.placed-item.is c.loop-placed.invariant now
