use Rattle.cell_sums.proofs.GainLemmas.{going_first}
use Rattle.cell_sums.proofs.blocks.Blocks.add_heights.Goals as goal

pub loop-first-init : goal.loop-first-init
loop-first-init g c = going_first c.args.cells.now (λ i. c.args.height) c.args.self.now
