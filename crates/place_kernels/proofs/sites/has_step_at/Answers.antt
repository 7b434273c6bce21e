use Rattle.place_kernels.proofs.Steps.{step_at, step_between}
use Rattle.place_kernels.proofs.sites.has_step_at.Goals as goal

pub returns-then-distance-step-eq0 : goal.returns-then-distance-step-eq0
returns-then-distance-step-eq0 c = step_at c.args.count c.args.step c.args.distance c.requires c.if-distance-step-eq0.true

pub returns-else-distance-step-eq0 : goal.returns-else-distance-step-eq0
returns-else-distance-step-eq0 c = step_between c.args.count c.args.step c.args.distance c.if-distance-step-eq0.false
