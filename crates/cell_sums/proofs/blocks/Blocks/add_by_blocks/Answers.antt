use Rattle.cell_sums.specs.Blocks.{strip_area}
use Rattle.cell_sums.proofs.GainLemmas.{going_first}
use Rattle.cell_sums.proofs.blocks.Blocks.add_by_blocks.Goals as goal

pub loop-first-init : goal.loop-first-init
loop-first-init g c = going_first c.args.cells.now (strip_area c.args.lines.now c.args.strip.now) c.args.self.now
