use Rattle.std.proofs.Common.{◌≡◌, ◌+◌, ℕ, if◌then◌else◌, get_or}
use Rattle.cell_sums.specs.Lines.{is_from}
use Rattle.cell_sums.proofs.blocks.add_height.Given as goal

abbrev pub invariant-loop-offset : goal.invariant-loop-offset
invariant-loop-offset l = (n : ℕ) → get_or l.sums n 0 ≡ get_or l.initial.sums n 0 + (if is_from l.place (l.place + l.offset) n then l.height else 0)
