use Rattle.following_laws.proofs.FamilyLemmas.{parts_follow}
use Rattle.following_laws.proofs.parts_follow.Goals as goal

pub returns : goal.returns
returns c = parts_follow
