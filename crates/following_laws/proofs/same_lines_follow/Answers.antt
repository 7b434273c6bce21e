use Rattle.following_laws.proofs.FamilyLemmas.{same_lines_follow}
use Rattle.following_laws.proofs.same_lines_follow.Goals as goal

pub returns : goal.returns
returns c = same_lines_follow
