use Rattle.followed_measures.proofs.ToldEditLemmas.{nothing_told}
use Rattle.followed_measures.proofs.told_edit.ToldMeasures.nothing.Goals as goal

pub returns : goal.returns
returns g c = λ library design. rw (c.new.ensures.items) (nothing_told library design)
