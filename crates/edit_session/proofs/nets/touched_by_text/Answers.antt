use Rattle.design_text.specs.Exchanges.{records_in}
use Rattle.followed_places.specs.Places.{said}
use Rattle.edit_session.proofs.nets.touched_by_text.Goals as goal

pub returns-in_default-clause-touched : goal.returns-in_default-clause-touched
returns-in_default-clause-touched g c = c.none.ensures.touched c.args.library.now (said (records_in c.args.text.now))
