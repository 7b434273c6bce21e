use Rattle.std.proofs.Common.{◌-◌}
use Rattle.cell_sums.specs.Blocks.{strip_area}
use Rattle.cell_sums.proofs.GainLemmas.{Going}
use Rattle.cell_sums.proofs.blocks.Blocks.add_by_blocks.Given as goal

abbrev pub invariant-loop-first : goal.invariant-loop-first
invariant-loop-first g l = Going l.initial.self l.self l.cells (strip_area l.lines l.strip) l.first

abbrev pub decreases-loop-first : goal.decreases-loop-first
decreases-loop-first g l = l.cells.end - l.first
