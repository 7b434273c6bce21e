use Rattle.name_groups.proofs.GroupLaws.{found_are_seen}
use Rattle.name_groups.proofs.laws.found_are_seen.Goals as goal

pub returns : goal.returns
returns g c = found_are_seen _ _
