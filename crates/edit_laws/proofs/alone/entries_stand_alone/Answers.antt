use Rattle.edit_laws.proofs.AloneEntries.{entries_stand_alone}
use Rattle.edit_laws.proofs.alone.entries_stand_alone.Goals as goal

pub returns : goal.returns
returns c = entries_stand_alone c.runs_are_texts.ensures
