use Rattle.measure_laws.proofs.LineMembers.{same_by_members}
use Rattle.measure_laws.proofs.grids.same_by_members.Goals as goal

pub returns : goal.returns
returns c = same_by_members
