use Rattle.name_groups.proofs.GroupLaws.{added_are_seen}
use Rattle.name_groups.proofs.laws.added_are_seen.Goals as goal

pub returns : goal.returns
returns g c = added_are_seen _ _
