use Rattle.edit_laws.proofs.EditRuns.{outputs_are_runs}
use Rattle.edit_laws.proofs.running.outputs_are_runs.Goals as goal

pub returns : goal.returns
returns c = outputs_are_runs
