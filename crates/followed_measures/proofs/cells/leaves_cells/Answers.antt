use Rattle.followed_measures.proofs.CellLemmas.{none_where}
use Rattle.followed_measures.proofs.cells.leaves_cells.Goals as goal

pub returns-in_ok-are_others : goal.returns-in_ok-are_others
returns-in_ok-are_others g c = λ both.
    record {
      went = none_where _ _ c.in_ok-goes.ensures c.if-goes.true;
      came = none_where _ _ c.in_ok-are_others.ensures both;
    }
