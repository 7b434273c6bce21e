use Rattle.std.proofs.Common.{◌≡◌, ◌++◌, drop, map}
use Rattle.net_touches.specs.ThingViews.{seen, seen_at, thing_view}
use Rattle.net_touches.proofs.layer.numbered.Given as goal

abbrev pub invariant-loop-id : goal.invariant-loop-id
invariant-loop-id g l = map (seen_at (map thing_view l.things)) l.items.items ++ map (λ x. seen (thing_view x)) (drop l.id l.things) ≡ map seen (map thing_view l.things)
