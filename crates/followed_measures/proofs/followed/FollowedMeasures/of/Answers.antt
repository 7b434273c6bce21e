use Rattle.design_text.specs.Exchanges.{records_in}
use Rattle.followed_measures.proofs.followed.FollowedMeasures.of.Goals as goal

pub returns : goal.returns
returns g c = c.made.ensures c.args.library.now (records_in c.args.text.now) (rw (c.statements_are_kept.ensures.said) c.in_ok-reports.ensures)
