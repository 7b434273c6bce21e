use Rattle.std.proofs.Common.{◌≡◌, ◌+◌, ◌<◌, ℕ, get_or}
use Rattle.cell_sums.proofs.blocks.move_sums.Given as goal

abbrev pub invariant-loop-place : goal.invariant-loop-place
invariant-loop-place l = record {
  same : (n : ℕ) → get_or l.sums n 0 + get_or l.spilled n 0 ≡ get_or l.initial.sums n 0 + get_or l.initial.spilled n 0;
  none : (n : ℕ) → n < l.place → get_or l.sums n 0 ≡ 0;
}
