use Rattle.std.proofs.Common.{◌≡◌, ◌==◌, drop}
use Rattle.std.specs.List.{list_any}
use Rattle.named_shapes.proofs.near.is_one_of.Given as goal

abbrev pub invariant-loop-other : goal.invariant-loop-other
invariant-loop-other l = list_any (λ p. p == l.place) (drop l.other-index l.places) ≡ list_any (λ p. p == l.place) l.places
