use Rattle.design_grid.proofs.AlongLemmas.{line_placed}
use Rattle.design_grid.proofs.grid.line_at.Goals as goal

pub returns : goal.returns
returns c = line_placed c.args.start c.args.step c.args.at c.ranges.start c.ranges.step c.requires
