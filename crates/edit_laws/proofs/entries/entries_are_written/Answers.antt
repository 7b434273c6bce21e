use Rattle.edit_laws.proofs.WrittenEntries.{entries_are_written}
use Rattle.edit_laws.proofs.entries.entries_are_written.Goals as goal

pub returns : goal.returns
returns c = entries_are_written
