use Rattle.std.proofs.Common.{◌∙◌, sym}
use Rattle.design_text.specs.Exchanges.{records_in}
use Rattle.followed_measures.specs.FollowedMeasures.{HasMeasures}
use Rattle.followed_measures.specs.Told.{IsToldIn}
use Rattle.followed_measures.specs.ToldViews.{told_view}
use Rattle.followed_measures.specs.declared.told_edit.ToldMeasures.{ToldMeasures}
use Rattle.followed_places.specs.Places.{said}
use Rattle.edit_session.proofs.FollowLemmas.{of_some}
use Rattle.edit_session.proofs.measures.follow_measures.Goals as goal

pub returns-in-Ok-true : goal.returns-in-Ok-true
returns-in-Ok-true g c =
    let library = c.args.library.now in
    let before = records_in c.requires.0 in
    let told = of_some (λ (t : ToldMeasures g.row.A.Denot). IsToldIn library (said before) (told_view t)) _ _ (sym c.in-Some-Some.is-1) c.requires.2 in
    let had = of_some (HasMeasures library before) _ _ (sym c.in-Some-Some.is-0 ∙ c.take-kept.ensures.value) c.requires.3 in
    c.in-Ok-true.ensures before c.requires.1 told had c.in-Ok-true.field-0-test

pub follow-requires : goal.follow-requires
follow-requires g c =
    let library = c.args.library.now in
    let before = records_in c.requires.0 in
    let told = of_some (λ (t : ToldMeasures g.row.A.Denot). IsToldIn library (said before) (told_view t)) _ _ (sym c.in-Some-Some.is-1) c.requires.2 in
    let had = of_some (HasMeasures library before) _ _ (sym c.in-Some-Some.is-0 ∙ c.take-kept.ensures.value) c.requires.3 in
    (before, c.requires.1, told, had)
