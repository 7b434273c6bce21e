use Rattle.design_text.specs.DesignTexts.{text_of}
use Rattle.design_text.specs.Exchanges.{records_in}
use Rattle.followed_places.specs.Places.{HasPlaces, said}
use Rattle.staying_laws.specs.Staying.{lines_on_places}
use Rattle.edit_session.specs.Known.{AreKept}
use Rattle.edit_session.proofs.BoxTests.{some_boxes}
use Rattle.edit_session.proofs.FollowLemmas.{of_some}
use Rattle.edit_session.proofs.places.follow_known.Goals as goal

pub followed-requires : goal.followed-requires
followed-requires g c =
    let library = c.args.library.now in
    let before = records_in c.requires.0 in
    let f = c.requires.1 in
    let good = c.scales_are_good.ensures (text_of c.requires.0) (said before) f.reads in (
      before,
      f.told,
      record {
        places = of_some (HasPlaces library before) _ _ c.in-Some.ensures.value f.had;
        lines = of_some (AreKept (lines_on_places library (said before))) _ _ c.in_ok-kept.ensures.value f.knew.places;
        some = good.some;
        few = good.few;
      },
    )

pub returns-clause-tests : goal.returns-clause-tests
returns-clause-tests g c = λ old f.
    let library = c.args.library.now in
    let before = records_in old in
    let good = c.scales_are_good.ensures (text_of old) (said before) f.reads in
    c.in_ok-found.ensures.tests before f.told (record {
      places = of_some (HasPlaces library before) _ _ c.in-Some.ensures.value f.had;
      lines = of_some (AreKept (lines_on_places library (said before))) _ _ c.in_ok-kept.ensures.value f.knew.places;
      some = good.some;
      few = good.few;
    })

pub returns-in_default-clause-tests : goal.returns-in_default-clause-tests
returns-in_default-clause-tests g c = λ old f. some_boxes c.args.library.now (said (records_in old)) (said (records_in c.args.text.now)) (λ x. x.tests) c.kept_if_left.result c.kept_if_left.ensures.tests

pub returns-in_default-clause-lines : goal.returns-in_default-clause-lines
returns-in_default-clause-lines g c =
    let library = c.args.library.now in
    let before = records_in c.requires.0 in
    let f = c.requires.1 in
    c.kept_if_left.ensures.lines library before f.told (of_some (AreKept (lines_on_places library (said before))) _ _ c.in_ok-kept.ensures.value f.knew.places)
