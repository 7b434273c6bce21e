use Rattle.std.proofs.Common.{sym}
use Rattle.design_text.specs.Exchanges.{records_in}
use Rattle.followed_nets.specs.FollowedNets.{HasNets}
use Rattle.followed_nets.specs.Touched.{AreTouched}
use Rattle.followed_places.specs.Places.{said}
use Rattle.edit_session.specs.Known.{AreOnNets}
use Rattle.edit_session.specs.Tests.{TouchesOnly}
use Rattle.edit_session.proofs.FollowLemmas.{of_some}
use Rattle.edit_session.proofs.NetTests.{few_shapes}
use Rattle.edit_session.proofs.nets.follow_known.Goals as goal

pub follow-requires : goal.follow-requires
follow-requires g c =
    let library = c.args.library.now in
    let before = records_in c.requires.0 in
    let t = c.requires.1 in (
      before,
      t.told,
      of_some (AreTouched library (said before)) _ _ (sym c.in_ok-touched.was) t.touched,
      record {
        nets = of_some (HasNets library before) _ _ c.in_ok-nets.ensures.value t.had;
        lines = of_some (AreOnNets library (said before)) _ _ c.in_ok-kept.ensures.value t.knew.nets;
      },
    )

pub returns-in-Ok-Some-clause-noted : goal.returns-in-Ok-Some-clause-noted
returns-in-Ok-Some-clause-noted g c =
    let library = c.args.library.now in
    let before = records_in c.requires.0 in
    let t = c.requires.1 in
    let touched = of_some (AreTouched library (said before)) _ _ (sym c.in_ok-touched.was) t.touched in
    let had = of_some (HasNets library before) _ _ c.in_ok-nets.ensures.value t.had in
    let lines = of_some (AreOnNets library (said before)) _ _ c.in_ok-kept.ensures.value t.knew.nets in
    (rw (c.in-Ok-Some.field-0-is) at (c.in-Ok-Some.ensures.lines before t.told touched (record { nets = had; lines = lines }))).nets

pub returns-in-Ok-Some-clause-lines : goal.returns-in-Ok-Some-clause-lines
returns-in-Ok-Some-clause-lines g c =
    let library = c.args.library.now in
    let before = records_in c.requires.0 in
    let t = c.requires.1 in
    let touched = of_some (AreTouched library (said before)) _ _ (sym c.in_ok-touched.was) t.touched in
    let had = of_some (HasNets library before) _ _ c.in_ok-nets.ensures.value t.had in
    let lines = of_some (AreOnNets library (said before)) _ _ c.in_ok-kept.ensures.value t.knew.nets in
    (rw (c.in-Ok-Some.field-0-is) at (c.in-Ok-Some.ensures.lines before t.told touched (record { nets = had; lines = lines }))).lines

pub returns-in-Ok-Some-clause-tests : goal.returns-in-Ok-Some-clause-tests
returns-in-Ok-Some-clause-tests g c = λ old subject t only.
    let library = c.args.library.now in
    let before = records_in old in
    let touched = of_some (AreTouched library (said before)) _ _ (sym c.in_ok-touched.was) t.touched in
    let had = of_some (HasNets library before) _ _ c.in_ok-nets.ensures.value t.had in
    let lines = of_some (AreOnNets library (said before)) _ _ c.in_ok-kept.ensures.value t.knew.nets in
    let all = of_some (TouchesOnly (said before) subject) _ _ (sym c.in_ok-touched.was) only in
    few_shapes library (said before) (said (records_in c.args.text.now)) subject c.in_ok-touched.touched _ touched.apart all
    (rw (c.in-Ok-Some.field-0-is) at (c.in-Ok-Some.ensures.tests before t.told touched (record { nets = had; lines = lines })))
