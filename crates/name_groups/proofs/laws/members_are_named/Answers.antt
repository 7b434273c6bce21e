use Rattle.name_groups.proofs.GroupLaws.{members_are_named}
use Rattle.name_groups.proofs.laws.members_are_named.Goals as goal

pub returns : goal.returns
returns g c = members_are_named _
