use Rattle.std.proofs.Common.{◌∙◌, ap, map}
use Rattle.design_tables.specs.TableViews.{numbered_view}
use Rattle.followed_places.specs.Places.{keep_outs_under}
use Rattle.followed_places.proofs.followed.loose_places.Goals as goal

pub returns-clause-keep_outs : goal.returns-clause-keep_outs
returns-clause-keep_outs g c =
    let is = ap (map numbered_view) c.deref-3.ensures.value ∙ c.in_ok-statements.ensures in
    c.in_ok-keep_outs.ensures ∙ ap keep_outs_under is
