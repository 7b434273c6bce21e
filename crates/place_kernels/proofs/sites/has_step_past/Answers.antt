use Rattle.place_kernels.proofs.Steps.{step_past}
use Rattle.place_kernels.proofs.sites.has_step_past.Goals as goal

pub returns : goal.returns
returns c = step_past c.args.count c.args.step c.args.distance c.requires.forward c.requires.some
