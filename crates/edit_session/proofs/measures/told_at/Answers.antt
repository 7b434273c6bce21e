use Rattle.design_text.specs.Exchanges.{records_in}
use Rattle.followed_places.specs.Places.{said}
use Rattle.edit_session.proofs.measures.told_at.Goals as goal

pub returns-in_default-clause-told : goal.returns-in_default-clause-told
returns-in_default-clause-told g c = c.nothing.ensures c.args.library.now (said (records_in c.args.text.now))
