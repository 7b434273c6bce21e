use Rattle.std.proofs.Common.{◌≡◌, ℕ, List, true, false, not, drop}
use Rattle.std.specs.List.{list_any}
use Rattle.named_shapes.specs.Touching.{is_known}
use Rattle.named_shapes.proofs.near.names_at.Given as goal

abbrev pub invariant-loop-place : goal.invariant-loop-place
invariant-loop-place g l =
    (more : List (List ℕ)) → ((n : ℕ) → is_known l.names l.found.items n ≡ true → is_known l.names more n ≡ true) → list_any (λ n. not (is_known l.names more n)) (drop l.place-index l.places) ≡ false
    → list_any (λ n. not (is_known l.names more n)) l.places ≡ false
