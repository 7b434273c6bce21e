use Rattle.name_groups.proofs.GroupLaws.{groups_grow}
use Rattle.name_groups.proofs.laws.groups_grow.Goals as goal

pub returns : goal.returns
returns g c = groups_grow _
