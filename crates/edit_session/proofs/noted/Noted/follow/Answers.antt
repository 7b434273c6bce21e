use Rattle.std.proofs.Common.{arith}
use Rattle.design_text.specs.Exchanges.{records_in}
use Rattle.followed_places.specs.Places.{said}
use Rattle.edit_session.proofs.noted.Noted.follow.Goals as goal

pub returns-clause-tests : goal.returns-clause-tests
returns-clause-tests g c = λ old subject f only.
    let design = said (records_in old) in
    let first = c.follow_known-statements.ensures.known design f.knew in
    let then = c.follow_places-places.ensures.known design first in
    record {
      by_shapes = c.follow_nets-nets.result.tests;
      by_boxes = c.follow_places-places.result.tests;
      shapes = c.follow_nets-nets.ensures.tests old subject (record { told = f.told; touched = f.told_before.nets; had = f.had.nets; knew = then }) only;
      boxes = c.follow_places-places.ensures.tests old (record { told = f.told; reads = f.reads; had = f.had.places; knew = first });
      few = omega (arith, c.saturating_add.ensures);
    }
