use Rattle.following_laws.proofs.FamilyLemmas.{kept_lines_follow}
use Rattle.following_laws.proofs.kept_lines_follow.Goals as goal

pub returns : goal.returns
returns c = kept_lines_follow
