use Rattle.std.proofs.Common.{◌-◌}
use Rattle.cell_sums.proofs.GainLemmas.{Going}
use Rattle.cell_sums.proofs.blocks.Blocks.add_heights.Given as goal

abbrev pub invariant-loop-first : goal.invariant-loop-first
invariant-loop-first g l = Going l.initial.self l.self l.cells (λ i. l.height) l.first

abbrev pub decreases-loop-first : goal.decreases-loop-first
decreases-loop-first g l = l.cells.end - l.first
