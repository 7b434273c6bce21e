use Rattle.following_laws.proofs.FamilyLemmas.{lines_that_stay}
use Rattle.following_laws.proofs.lines_that_stay.Goals as goal

pub returns : goal.returns
returns c = lines_that_stay
