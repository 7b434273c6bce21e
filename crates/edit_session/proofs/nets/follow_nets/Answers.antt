use Rattle.design_text.specs.Exchanges.{records_in}
use Rattle.followed_places.specs.Places.{said}
use Rattle.edit_session.proofs.NetTests.{none_compared}
use Rattle.edit_session.proofs.nets.follow_nets.Goals as goal

pub returns-in-None-clause-tests : goal.returns-in-None-clause-tests
returns-in-None-clause-tests g c = λ old subject touches only.
    none_compared c.args.library.now (said (records_in old)) (said (records_in c.args.text.now)) subject c.none.result.tests c.none.ensures.tests
