use Rattle.std.proofs.Common.{map}
use Rattle.def_reader.specs.StatementViews.{record_view}
use Rattle.followed_measures.proofs.ToldLemmas.{told_so}
use Rattle.followed_measures.proofs.told.told_by.Goals as goal

pub returns-clause-told : goal.returns-clause-told
returns-clause-told g c = λ design tell fits.
    let some = map record_view c.args.statements.now in
    let measures = rw (c.in_ok-names.ensures, c.in-Some.is) at c.in_ok-measures.ensures.measures in
    rw (c.in_ok-name.ensures) (told_so c.one_net_is_told.ensures c.lengths_are_told.ensures c.none_is_longer.ensures c.args.library.now some design c.args.net.now tell _ _ _ fits measures)
