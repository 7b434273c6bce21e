use Rattle.measure_laws.proofs.NameSums.{total_is_of_all_entries}
use Rattle.measure_laws.proofs.lengths.total_is_of_all_entries.Goals as goal

pub returns : goal.returns
returns c = total_is_of_all_entries
