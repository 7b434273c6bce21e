use Rattle.edit_laws.proofs.EditRuns.{runs_keep_reading}
use Rattle.edit_laws.proofs.running.runs_keep_reading.Goals as goal

pub returns : goal.returns
returns c = runs_keep_reading c.edits_are_applied.ensures
