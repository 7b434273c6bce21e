use Rattle.std.proofs.Common.{◌≡◌, ◌+◌, not, ◌==◌, drop}
use Rattle.std.specs.List.{prefix_len}
use Rattle.unit_numbers.proofs.distance_text.split_point.Given as goal

abbrev pub invariant-loop-place : goal.invariant-loop-place
invariant-loop-place l =
    prefix_len (λ b. not (b == 46)) l.body ≡ l.place + prefix_len (λ b. not (b == 46)) (drop l.place l.body)
