use Rattle.design_text.specs.Exchanges.{records_in}
use Rattle.edit_rules.specs.Edits.{change_of}
use Rattle.followed_places.specs.Places.{said}
use Rattle.edit_session.specs.Tests.{subject_of}
use Rattle.edit_session.proofs.NetTests.{none_is_touched}
use Rattle.edit_session.proofs.nets.touched_by_edit.Goals as goal

pub returns-in-None-clause-touched : goal.returns-in-None-clause-touched
returns-in-None-clause-touched g c = c.none.ensures.touched c.args.library.now (said (records_in c.args.text.now))

pub returns-in-None-clause-only : goal.returns-in-None-clause-only
returns-in-None-clause-only g c = none_is_touched (said (records_in c.args.text.now)) (subject_of (change_of c.args.edit.now)) c.none.result c.none.ensures.none
