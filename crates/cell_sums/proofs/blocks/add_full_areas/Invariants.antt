use Rattle.std.proofs.Common.{◌≡◌, ◌+◌, ◌*◌, ◌-◌, ℕ, if◌then◌else◌, get_or}
use Rattle.cell_sums.specs.Lines.{is_from, width}
use Rattle.cell_sums.proofs.blocks.add_full_areas.Given as goal

abbrev pub invariant-loop-offset : goal.invariant-loop-offset
invariant-loop-offset g l = (n : ℕ) → get_or l.sums n 0 ≡ get_or l.initial.sums n 0 + (if is_from l.place (l.place + l.offset) n then width l.lines (l.first + (n - l.place)) * l.height else 0)
