use Rattle.std.proofs.Common.{◌≡◌, ℕ, Bool, false, drop}
use Rattle.std.specs.List.{list_any}
use Rattle.named_shapes.proofs.near.each_once.Given as goal

abbrev pub invariant-loop-place : goal.invariant-loop-place
invariant-loop-place g l = (test : ℕ → Bool) → list_any test l.once.items ≡ false → list_any test (drop l.place-index l.places) ≡ false → list_any test l.places ≡ false
